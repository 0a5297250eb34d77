-- `table_check::rules::nulls_empty` meets its contract: the walk of Walks over the cells.
-- Assumes nothing.
use native.Mathlib.Omega.{arith}
use Rattle.table_check.proofs.Walks.{walk_more}
use Rattle.table_check.proofs.rules.nulls_empty.Goals as goal

pub loop-j-preserved : goal.loop-j-preserved
loop-j-preserved c = walk_more c.loop-j.invariant (omega arith) c.still_empty-empty.ensures
