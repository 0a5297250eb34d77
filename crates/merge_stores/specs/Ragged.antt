-- Redundant by the law offsets_close in merge_stores/proofs/Closing.antt: ragged values of a chunk list (S3.6, S3.8).
-- How long they are, the offsets that these add up to, and what their stores ask: ragged_asked in merge_stores/proofs/RaggedAsks.antt.
-- Assumes nothing.
use Rattle.std.specs.Prelude.{◌≡◌, ℕ, suc, ◌+◌, ◌≤◌, ◌<◌, List, [], ◌∷◌, ◌++◌, length, take, drop}
use Rattle.array.specs.Limits.{most_bytes}
use Rattle.array.specs.Lists.{from}
use Rattle.array.specs.Shape.{volume}
use Rattle.array.specs.Subset.{Subset, lengths, cells_in, cells_of_all}
use Rattle.array.specs.Offsets.{Rising}
use Rattle.array.specs.Places.{offset_at, Rises, sum, sums, steps_at, bytes_at}
use Rattle.chunks.specs.Gather.{put_back, Once}

-- ---- lengths, and offsets from them

-- the lengths of all values of a chunk list
abbrev pub step_parts : List Subset → List ℕ → List ℕ
step_parts [] os = []
step_parts (b ∷ bs) os = steps_at (offset_at os) (from 0 (volume (lengths b))) ++ step_parts bs (drop (suc (volume (lengths b))) os)

-- the offsets of a merge of chunks with these offsets
abbrev pub offsets_merged : List ℕ → List Subset → List ℕ → List ℕ
offsets_merged shape bs src = 0 ∷ sums 0 (put_back 0 (volume shape) (cells_of_all shape bs) (step_parts bs src))

-- ---- what the stores ask

-- the output's offsets never fall, and end within its values
pub record Begins (shape out begins : List ℕ) : Type 0 where
  pub covered : volume shape < length begins
  pub rises : Rises (offset_at begins) (volume shape)
  pub room : offset_at begins (volume shape) ≤ length out

-- the output has as many places for the first i of a chunk's cells as the chunk's own offset i says
abbrev pub Agrees : List ℕ → List ℕ → ℕ → List ℕ → Type 0
Agrees begins src first cs = (i : ℕ) → i ≤ length cs → bytes_at (offset_at begins) (take i cs) ≡ offset_at src (first + i)

-- of one chunk: its lengths, its values
pub record LengthsAsked (shape out src : List ℕ) (first count : ℕ) : Type 0 where
  pub rises : Rises (λ i. offset_at src (first + i)) count
  pub indexed : first + count < length src
  pub room : volume shape < length out

pub record RaggedAsked (shape out begins values : List ℕ) (base : ℕ) (src : List ℕ) (first : ℕ) (cs : List ℕ) : Type 0 where
  pub laid : Begins shape out begins
  pub agrees : Agrees begins src first cs
  pub indexed : first + length cs < length src
  pub enough : base + bytes_at (offset_at begins) cs ≤ length values

-- chunk by chunk: offsets that begin at 0 and never fall; offsets that the output agrees with
abbrev pub LengthChunks : List Subset → List ℕ → Type 0
LengthChunks [] os = Unit {0}
LengthChunks (b ∷ bs) os = (volume (lengths b) < length os) × Rising (take (suc (volume (lengths b))) os) × LengthChunks bs (drop (suc (volume (lengths b))) os)

abbrev pub RaggedChunks : List ℕ → List ℕ → List Subset → List ℕ → Type 0
RaggedChunks begins shape [] os = Unit {0}
RaggedChunks begins shape (b ∷ bs) os =
    (volume (lengths b) < length os) × Agrees begins os 0 (cells_in shape b) × RaggedChunks begins shape bs (drop (suc (volume (lengths b))) os)

-- of all chunks: their lengths, their values
pub record LengthsAllAsked (shape : List ℕ) (bs : List Subset) (out src : List ℕ) : Type 0 where
  pub room : volume shape < length out
  pub chunks : LengthChunks bs src

pub record RaggedAllAsked (shape : List ℕ) (bs : List Subset) (out begins values src : List ℕ) : Type 0 where
  pub laid : Begins shape out begins
  pub chunks : RaggedChunks begins shape bs src
  pub enough : bytes_at (offset_at begins) (cells_of_all shape bs) ≤ length values

-- of both: the value bytes are as many as the lengths say, few, and fit the output
pub record RaggedMergeAsked (shape : List ℕ) (bs : List Subset) (outv outo values src : List ℕ) (n : ℕ) : Type 0 where
  pub once : Once (volume shape) (cells_of_all shape bs)
  pub counted : n ≡ volume shape
  pub room : n < length outo
  pub lengths_fit : LengthChunks bs src
  pub summed : sum (step_parts bs src) ≡ length values
  pub small : length values ≤ most_bytes
  pub enough : length values ≤ length outv
