-- `table_check::follow` meets its contract, by the laws of Following.
-- Assumes nothing.
use Rattle.table_check.proofs.Following.{Turn}
use Rattle.table_check.proofs.follow.Given as goal

abbrev pub invariant-loop-number : goal.invariant-loop-number
invariant-loop-number l = Turn l.starts l.lengths l.order l.end l.number-index
