-- `end_of` meets its contract: the lengths before those that are left are added up.
-- Assumes nothing.
use mathlib.Core.Path.{◌≡◌}
use Prim.Native.Nat.{◌+◌}
use lib.ListN.{drop}
use Rattle.array.specs.Places.{sum}
use Rattle.migrate_step.proofs.end_of.Given as goal

abbrev pub invariant-loop-length : goal.invariant-loop-length
invariant-loop-length l = l.end + sum (drop l.length-index l.lengths) ≡ sum l.lengths
