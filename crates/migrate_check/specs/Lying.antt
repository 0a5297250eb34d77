-- Redundant by the contract of `migrate_check::check_table`, migrate_check/src/lib.rt: strings of chunks that are left (S16.1).
-- They lie within their bytes, and no chunk has a new string that has no old one.
-- Assumes nothing.
use Rattle.std.specs.Prelude.{ℕ, ◌≤◌, List, length}
use Rattle.std.specs.Coded.{le_prop}
use Rattle.array.specs.Places.{sum}

pub record Lying (old_lengths old new_lengths area : List ℕ) : Type 0 where
  pub old_room : sum old_lengths ≤ length old
  pub few : length new_lengths ≤ length old_lengths
  pub new_room : sum new_lengths ≤ length area

-- it has one proof at most, so that a struct may hold it
pub Lying-prop : (old_lengths old new_lengths area : List ℕ) → IsProp (Lying old_lengths old new_lengths area)
Lying-prop old_lengths old new_lengths area = hlevel (le_prop)
