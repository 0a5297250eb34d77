-- Redundant by the law keep_at in encode/proofs/Walk.antt: the cells that a level counts (S4.7), by their numbers.
-- Code that goes by places speaks of them.
-- Assumes nothing.
use Rattle.std.specs.Prelude.{ℕ, zero, suc, ◌-◌, ◌*◌, ◌≤◌, ◌≡◌, Bool, List, length, take, drop}
use Rattle.array.specs.Limits.{most_cells, most_depth}
use Rattle.array.specs.Lists.{pick, from, passing}
use Rattle.array.specs.Buffers.{over}
use Rattle.array.specs.Kind.{Masks}
use Rattle.array.specs.Cells.{set_test}
use Rattle.array.specs.Places.{masks_at, shown_at}
use Rattle.codec.specs.Mask.{mask_form}

-- whether a byte is set, and whether cell i is set at each of the first l levels, as numbers, 1 or 0
abbrev pub set_one : ℕ → ℕ
set_one m = pick (set_test m) 1 0

abbrev pub live_one : ℕ → List ℕ → ℕ → ℕ → ℕ
live_one n masks l i = pick (shown_at n masks l i) 1 0

-- the cells that level l counts, all of them and those from i on
abbrev pub live_at : ℕ → List ℕ → ℕ → List ℕ
live_at n masks l = passing (shown_at n masks l) (from 0 n)

abbrev pub live_from : ℕ → List ℕ → ℕ → ℕ → List ℕ
live_from n masks l i = passing (shown_at n masks l) (from i (n - i))

-- how many of the m numbers from i on pass before the first that does not
abbrev pub run_of : (ℕ → Bool) → ℕ → ℕ → ℕ
run_of t i zero = zero
run_of t i (suc m) = pick (t i) (suc (run_of t (suc i) m)) zero

-- what it takes to tell the cells that level l counts: the masks of the levels above it
pub record Planes (n : ℕ) (masks : List ℕ) (l : ℕ) : Type 0 where
  pub shallow : l ≤ most_depth
  pub few : n ≤ most_cells
  pub planes : l * n ≤ length masks

-- the stored mask of the cells that level l counts
abbrev pub live_mask : Masks → ℕ → List ℕ → ℕ → List ℕ
live_mask x n masks l = (mask_form x).put (masks_at n masks l (live_at n masks l))

-- of the cells from i on that level l counts, the mask bytes of the first m lie over a block, and those behind them begin at r
pub record Gathered (n : ℕ) (masks : List ℕ) (l : ℕ) (block : List ℕ) (i m : ℕ) (block' : List ℕ) (r : ℕ) : Type 0 where
  pub bytes : block' ≡ over (masks_at n masks l (take m (live_from n masks l i))) block
  pub behind : live_from n masks l r ≡ drop m (live_from n masks l i)
