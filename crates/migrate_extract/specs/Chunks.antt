-- Redundant by the law cut_is in migrate_extract/proofs/Cut.antt: what a cut takes of a chunk, and of all chunks of a table (S16.5).
-- Assumes nothing.
use Rattle.std.specs.Prelude.{ℕ, ◌≡◌, ◌+◌, ◌≤◌, ◌<◌, List, [], length, Option}
use Rattle.array.specs.Answer.{Answer, gives, refuses, unless}
use Rattle.array.specs.Limits.{most_bytes}
use Rattle.array.specs.Lists.{joined, All}
use Rattle.array.specs.Cells.{Value}
use Rattle.array.specs.Content.{size_test}
use Rattle.array.specs.Places.{step_at, offset_at}
use Rattle.subset.specs.Cells.{cells_of, subsets_in, cells_of_each}
use Rattle.subset.specs.declared.walk.Subset.{Subset}
use Rattle.subset.specs.declared.walk.Subsets.{Subsets}
use Rattle.decode_interleaved.specs.Walk.{given, total_of}
use Rattle.chunks.specs.Gather.{put_back, Once}
use Rattle.migrate.specs.Live.{Stored, read_stored, read_chunks}
use Rattle.migrate_cells.specs.Place.{place_in}
use Rattle.migrate_extract.specs.Asked.{places_asked, values_asked}

abbrev pub place_for : Subset → ℕ → Option ℕ
place_for asked = place_in (cells_of asked)

-- ---- of a chunk that is read

abbrev pub chunk_given : Stored → ℕ → List Value
chunk_given c n = given (read_stored c n)

pub record ChunkRead (asked part : Subset) (c : Stored) : Type 0 where
  pub shape : asked.shape.now ≡ part.shape.now
  pub read : read_stored c part.count ≡ gives (chunk_given c part.count)

abbrev pub chunk_places : Subset → Subset → List ℕ
chunk_places asked part = places_asked (place_for asked) (cells_of part)

abbrev pub chunk_asked : Subset → Subset → Stored → List Value
chunk_asked asked part c = values_asked (place_for asked) (cells_of part) (chunk_given c part.count)

-- ---- of all chunks

abbrev pub all_read : Answer (List (List Value)) → List (List Value)
all_read (gives vss) = vss
all_read (refuses k) = []

abbrev pub all_given : Subsets → List Stored → List (List Value)
all_given subsets cs = all_read (read_chunks (subsets_in subsets) cs)

pub record AllRead (asked : Subset) (subsets : Subsets) (cs : List Stored) (strings : ℕ) : Type 0 where
  pub shape : asked.shape.now ≡ subsets.shape.now
  pub counted : length (subsets_in subsets) ≡ strings
  pub read : read_chunks (subsets_in subsets) cs ≡ gives (all_given subsets cs)

abbrev pub all_places : Subset → Subsets → List ℕ
all_places asked subsets = places_asked (place_for asked) (cells_of_each subsets)

abbrev pub all_asked : Subset → Subsets → List Stored → List Value
all_asked asked subsets cs = values_asked (place_for asked) (cells_of_each subsets) (joined (all_given subsets cs))

-- few enough value bytes, or 5
abbrev pub few_or_refused : ℕ → Answer ℕ
few_or_refused total = unless (size_test total) 5 (gives total)

-- ---- a value has its place in outputs of r bytes: where it begins, and how long it is

pub record Placed (begins : List ℕ) (r p : ℕ) (v : Value) : Type 0 where
  pub long : step_at (offset_at begins) p ≡ length v
  pub room : offset_at begins p + length v ≤ r

-- ---- all that a cut takes, put back at its places

abbrev pub cut_of : Subset → Subsets → List Stored → List Value
cut_of asked subsets cs = put_back [] asked.count (all_places asked subsets) (all_asked asked subsets cs)

-- every chunk is read, each place of the cut is taken once, and the bytes are few
pub record CutAsked (asked : Subset) (subsets : Subsets) (cs : List Stored) (strings sum : ℕ) : Type 0 where
  pub read : AllRead asked subsets cs strings
  pub below : All (λ p. p < asked.count) (all_places asked subsets)
  pub once : Once asked.count (all_places asked subsets)
  pub as_many : length (all_places asked subsets) ≡ length (all_asked asked subsets cs)
  pub total : sum ≡ total_of (all_asked asked subsets cs)
  pub small : sum ≤ most_bytes
