-- Redundant by the contract of `decode::decode`, decode/src/lib.rt: the limits of an array (S1.2, S1.3).
-- Assumes nothing.
use Rattle.std.specs.Prelude.{ℕ, ◌≤◌}
use Rattle.array.specs.Limits.{most_cells, most_depth}

-- The limits, checked before anything is read. No struct carries them: `decode` calls two functions with them, once each, and a struct
-- would be made there and taken apart at once, and of arrays with no mask there is no depth to keep in it.
pub record Limited (d n : ℕ) : Type 0 where
  pub some : 1 ≤ n
  pub few : n ≤ most_cells
  pub shallow : d ≤ most_depth
