-- Redundant by the laws masks_close and fixed_close in merge_stores/proofs/Closing.antt: masks, and values of one width, of a chunk list.
-- Where they lie (S3.6), and what their stores ask: masks_asked and parts_asked in merge_output/proofs/Closed.antt.
-- Assumes nothing.
use Rattle.std.specs.Prelude.{◌≡◌, ℕ, zero, suc, ◌+◌, ◌*◌, ◌≤◌, List, [], ◌∷◌, ◌++◌, map, length, take, drop}
use Rattle.array.specs.Limits.{most_size}
use Rattle.array.specs.Lists.{from, joined}
use Rattle.array.specs.Shape.{volume}
use Rattle.array.specs.Subset.{Subset, lengths, cells_of_all}
use Rattle.array.specs.Cells.{Cell, mask_of, inners}
use Rattle.chunks.specs.Gather.{put_back, Once}

-- of chunks of m cells each: m × lead bytes are passed over, m × size taken, and the next chunk begins m × step bytes on
abbrev pub parts : ℕ → ℕ → ℕ → List Subset → List ℕ → List ℕ
parts lead step size [] s = []
parts lead step size (b ∷ bs) s =
    take (volume (lengths b) * size) (drop (volume (lengths b) * lead) s) ++ parts lead step size bs (drop (volume (lengths b) * step) s)

-- how many cells the subsets have together
abbrev pub cells_total : List Subset → ℕ
cells_total [] = 0
cells_total (b ∷ bs) = volume (lengths b) + cells_total bs

-- the mask bytes of level l, outermost first
abbrev pub level_at : (d l : ℕ) → List (Cell d) → List ℕ
level_at zero l cs = []
level_at (suc d) zero cs = mask_of cs
level_at (suc d) (suc l) cs = level_at d l (inners cs)

-- the first `upto` mask levels of a merge of chunks of this depth
abbrev pub masks_merged : List ℕ → List Subset → ℕ → List ℕ → ℕ → List ℕ
masks_merged shape bs depth masks upto = joined (map (λ l. put_back 0 (volume shape) (cells_of_all shape bs) (parts l depth 1 bs masks)) (from 0 upto))

-- ---- what the stores ask: of one chunk, of one part of each chunk, of all mask levels

pub record StoreAsked (shape out : List ℕ) (base size : ℕ) (src : List ℕ) (first count : ℕ) : Type 0 where
  pub narrow : size ≤ most_size
  pub room : base + volume shape * size ≤ length out
  pub enough : first + count * size ≤ length src

pub record PartsAsked (shape : List ℕ) (bs : List Subset) (out : List ℕ) (base size : ℕ) (src : List ℕ) (lead step : ℕ) : Type 0 where
  pub narrow : size ≤ most_size
  pub inner : lead + size ≤ step
  pub room : base + volume shape * size ≤ length out
  pub enough : cells_total bs * step ≤ length src

pub record MasksAsked (shape : List ℕ) (bs : List Subset) (out src : List ℕ) (depth cells : ℕ) : Type 0 where
  pub once : Once (volume shape) (cells_of_all shape bs)
  pub counted : cells ≡ volume shape
  pub room : depth * cells ≤ length out
  pub enough : cells_total bs * depth ≤ length src
