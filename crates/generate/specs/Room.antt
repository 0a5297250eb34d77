-- Redundant by the contract of `generate::generate`, generate/src/lib.rt: places for the bytes that are drawn (S12.3).
-- Assumes nothing.
use Rattle.std.specs.Prelude.{ℕ, ◌+◌, ◌*◌, ◌<◌, ◌≤◌, List, length}
use Rattle.std.specs.Coded.{le_prop}
use Rattle.array.specs.Limits.{most_depth, most_size, most_cells}

-- a place in each of so many planes of n cells
pub record Column (n at levels : ℕ) (out : List ℕ) : Type 0 where
  pub within : at + levels * n < n + length out
  pub small : at + levels * n ≤ 1048576

-- limits of a load
pub record Limited (depth n : ℕ) : Type 0 where
  pub shallow : depth ≤ most_depth
  pub few : n ≤ most_cells

-- it has one proof at most, so that a struct may hold it
pub Limited-prop : (depth n : ℕ) → IsProp (Limited depth n)
Limited-prop depth n = hlevel le_prop

-- outputs that hold n cells of a fixed size
pub record FixedRoom (depth n size : ℕ) (masks values : List ℕ) : Type 0 where
  pub for_masks : depth * n ≤ length masks
  pub for_values : n * size ≤ length values
  pub narrow : size ≤ most_size

-- outputs that hold n ragged cells of so many bytes
pub record RaggedRoom (depth n bytes : ℕ) (masks values offsets : List ℕ) : Type 0 where
  pub for_masks : depth * n ≤ length masks
  pub for_values : bytes ≤ length values
  pub for_offsets : n + 1 ≤ length offsets
