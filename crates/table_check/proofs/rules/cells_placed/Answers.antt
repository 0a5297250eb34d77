-- `table_check::rules::cells_placed` meets its contract: the walk of Walks over the cells, which stops at the first that is not placed.
-- Assumes nothing.
use native.Mathlib.Omega.{arith}
use Rattle.table_check.proofs.Walks.{walk_more}
use Rattle.table_check.proofs.rules.cells_placed.Goals as goal

pub loop-j-preserved : goal.loop-j-preserved
loop-j-preserved c = walk_more c.loop-j.invariant (omega arith) c.if-not-cell_placed.ensures
