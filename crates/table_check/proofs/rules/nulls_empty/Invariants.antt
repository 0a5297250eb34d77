-- `table_check::rules::nulls_empty` meets its contract: the walk of Walks over the cells.
-- Assumes nothing.
use Rattle.table_check.specs.Check.{null_at}
use Rattle.table_check.proofs.Walks.{Walk}
use Rattle.table_check.proofs.rules.nulls_empty.Given as goal

abbrev pub invariant-loop-j : goal.invariant-loop-j
invariant-loop-j l = Walk (null_at l.at l.masks l.lengths) 0 l.n l.empty l.j
