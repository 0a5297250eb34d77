-- `table_check::rules::cells_placed` meets its contract: the walk of Walks over the cells, which stops at the first that is not placed.
-- Assumes nothing.
use mathlib.Core.Bool.{true}
use Rattle.table_check.specs.Check.{placed_at}
use Rattle.table_check.proofs.Walks.{Walk}
use Rattle.table_check.proofs.rules.cells_placed.Given as goal

abbrev pub invariant-loop-j : goal.invariant-loop-j
invariant-loop-j l = Walk (placed_at l.size l.starts l.lengths) 0 l.n true l.j
