-- `left_behind` meets its contract: what is left is the size without the lengths before those that are left.
-- Assumes nothing.
use mathlib.Core.Path.{◌≡◌}
use Prim.Native.Nat.{◌+◌}
use lib.ListN.{drop}
use Rattle.array.specs.Places.{sum}
use Rattle.migrate_check.proofs.left_behind.Given as goal

abbrev pub invariant-loop-length : goal.invariant-loop-length
invariant-loop-length l = l.left + sum l.lengths ≡ l.size + sum (drop l.length-index l.lengths)
