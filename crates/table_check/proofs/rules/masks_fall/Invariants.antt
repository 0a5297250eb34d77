-- `table_check::rules::masks_fall` meets its contract: the walk of Walks over the bytes behind the first plane.
-- Assumes nothing.
use Prim.Native.Nat.{◌-◌}
use lib.ListN.{length}
use Rattle.table_check.specs.Check.{fall_at}
use Rattle.table_check.proofs.Walks.{Walk}
use Rattle.table_check.proofs.rules.masks_fall.Given as goal

abbrev pub invariant-loop-i : goal.invariant-loop-i
invariant-loop-i l = Walk (fall_at l.n l.masks) l.n (length l.masks - l.n) l.falling l.i
