-- A walk over cells, each of which is to start no lower than the one before it ends: what is left, from there, says what the whole says.
-- Assumes nothing.
use mathlib.Core.Path.{◌≡◌}
use mathlib.Core.List.{List}
use Prim.Native.Nat.{ℕ}
use lib.ListN.{drop}
use Rattle.array.specs.Lists.{All}
use Rattle.array.specs.Places.{offset_at}
use Rattle.table.specs.Order.{follow_test}
use Rattle.table_check.specs.Check.{Reached}

-- behind i cells, the last of which ends at `end`
pub record Turn (starts lengths order : List ℕ) (end i : ℕ) : Type 0 where
  pub reached : All (Reached starts lengths) order
  pub whole : follow_test (offset_at starts) (offset_at lengths) end (drop i order) ≡ follow_test (offset_at starts) (offset_at lengths) 0 order
