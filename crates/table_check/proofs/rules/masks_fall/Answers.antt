-- `table_check::rules::masks_fall` meets its contract: the walk of Walks over the bytes behind the first plane.
-- Assumes nothing.
use native.Mathlib.Omega.{arith}
use Rattle.table_check.proofs.Walks.{walk_more}
use Rattle.table_check.proofs.rules.masks_fall.Goals as goal

pub loop-i-preserved : goal.loop-i-preserved
loop-i-preserved c = walk_more c.loop-i.invariant (omega arith) c.still_falls-falling.ensures
