-- docs/SPEC.md, S16.1 to S16.4: a live table, whose chunks leave the interleaved form one by one, and the check of it.
-- The old strings lie end to end, one for each chunk; those of the first `moved` chunks lie anew, end to end, in the area.
-- Assumes nothing.
use Rattle.std.specs.Prelude.{ℕ, ◌≤◌, ◌≡◌, Bool, ◌&&◌, List, [], ◌∷◌, ◌++◌, map, length, take, drop, leb, eqb}
use Rattle.array.specs.Answer.{Answer, gives, unless, and_then}
use Rattle.array.specs.Kind.{Form, ragged, at_start}
use Rattle.array.specs.Shape.{volume, shape_test}
use Rattle.array.specs.Subset.{Subset, lengths, subsets_of, many_test, cells_of_all}
use Rattle.array.specs.Cells.{Value}
use Rattle.array.specs.Places.{sum}
use Rattle.codec.specs.Values.{get_values}
use Rattle.codec.specs.Interleaved.{interleaved_values}
use Rattle.chunks.specs.Gather.{once_test}

-- subsets are numbers laid end to end, as a merge takes them; both lists have a length for each chunk
pub record LiveTable : Type 0 where
  pub shape : List ℕ
  pub subsets : List ℕ
  pub old_lengths : List ℕ
  pub old : List ℕ
  pub moved : ℕ
  pub moved_lengths : List ℕ
  pub area : List ℕ

-- strings that lie end to end, by their lengths
abbrev pub strings : List ℕ → List ℕ → List (List ℕ)
strings [] s = []
strings (l ∷ ls) s = take l s ∷ strings ls (drop l s)

-- ---- a chunk as it lies, and its own reader

pub data Stored : Type 0 where
  older newer : List ℕ → Stored

-- the form of moved chunks
abbrev pub new_form : Form
new_form = ragged 8 at_start

-- the values of n cells
unfoldable pub read_stored : Stored → ℕ → Answer (List Value)
unfolding interleaved_values get_values
read_stored (older s) n = interleaved_values n s
read_stored (newer s) n = get_values new_form s n

-- the values of each chunk, in the list's order
unfoldable pub read_chunks : List Subset → List Stored → Answer (List (List Value))
unfolding read_stored
read_chunks [] cs = gives []
read_chunks (b ∷ bs) [] = gives []
read_chunks (b ∷ bs) (c ∷ cs) =
    and_then (read_stored c (volume (lengths b))) (λ vs.
    and_then (read_chunks bs cs) (λ vss. gives (vs ∷ vss)))

-- ---- the chunks of the table

abbrev pub chunk_subsets : LiveTable → List Subset
chunk_subsets t = subsets_of (length t.shape) t.subsets

abbrev pub chunk_count : LiveTable → ℕ
chunk_count t = length (chunk_subsets t)

-- the lengths of those moved, and where they end in the area; the list is not read past them
abbrev pub new_lengths : LiveTable → List ℕ
new_lengths t = take t.moved t.moved_lengths

abbrev pub moved_end : LiveTable → ℕ
moved_end t = sum (new_lengths t)

abbrev pub stored_chunks : LiveTable → List Stored
stored_chunks t = map newer (strings (new_lengths t) t.area) ++ map older (drop t.moved (strings t.old_lengths t.old))

-- ---- the check of it

-- refusal 4
pub record ListsOk (t : LiveTable) : Type 0 where
  pub old_count : length t.old_lengths ≡ chunk_count t
  pub moved_count : length t.moved_lengths ≡ chunk_count t
  pub old_sum : sum t.old_lengths ≡ length t.old
  pub few : t.moved ≤ chunk_count t
  pub within : moved_end t ≤ length t.area

abbrev pub lists_test : LiveTable → Bool
lists_test t =
    eqb (length t.old_lengths) (chunk_count t) && eqb (length t.moved_lengths) (chunk_count t) && eqb (sum t.old_lengths) (length t.old)
    && leb t.moved (chunk_count t) && leb (moved_end t) (length t.area)

-- the values of each chunk, or the first refusal; `asked` is the test of the subset that a cut asks for
unfoldable pub chunk_values : Bool → LiveTable → Answer (List (List Value))
unfolding read_chunks
chunk_values asked t =
    unless (shape_test t.shape) 2
    (unless (many_test t.shape t.subsets && asked) 3
    (unless (lists_test t) 4
    (unless (once_test (volume t.shape) (cells_of_all t.shape (chunk_subsets t))) 12
    (read_chunks (chunk_subsets t) (stored_chunks t)))))
