-- Redundant by the law shown_laid in shown_cells/proofs/Showing.antt: the values of the cells that a plane shows, zero bytes elsewhere.
-- Assumes nothing.
use Rattle.std.specs.Prelude.{ℕ, ◌*◌, ◌≤◌, ◌<◌, ◌≡◌, Bool, List, map, length, get_or, replicate}
use Rattle.array.specs.Lists.{pick, from, joined}
use Rattle.array.specs.Cells.{Value, set_test}
use Rattle.array.specs.Places.{fixed_at, value_at}

-- of cell j, of values of one size
abbrev pub shown_value : ℕ → List ℕ → List ℕ → ℕ → Value
shown_value size vs plane j = pick (set_test (get_or plane j 0)) (value_at (fixed_at 0 size) vs j) (replicate size 0)

-- of all cells, end to end
abbrev pub shown_values : ℕ → List ℕ → List ℕ → List ℕ
shown_values size vs plane = joined (map (shown_value size vs plane) (from 0 (length plane)))

-- there is a value for each cell, and room for it
pub record ShownWithin (out values : List ℕ) (size : ℕ) (plane : List ℕ) : Type 0 where
  pub room : length plane * size ≤ length out
  pub source : length plane * size ≤ length values

-- the cells from i up to e are all shown, or all not
pub record Alike (plane : List ℕ) (shown : Bool) (i e : ℕ) : Type 0 where
  pub some : i < e
  pub within : e ≤ length plane
  pub alike : (j : ℕ) → i ≤ j → j < e → set_test (get_or plane j 0) ≡ shown
