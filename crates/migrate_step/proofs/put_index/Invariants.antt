-- `put_index` meets its contract, by the laws of Indexing (proofs/Writing).
-- Assumes nothing.
use Rattle.migrate_step.proofs.Writing.{Indexing}
use Rattle.migrate_step.proofs.put_index.Given as goal

abbrev pub invariant-loop-i : goal.invariant-loop-i
invariant-loop-i l = Indexing l.cells l.bytes l.fn.area l.at l.area l.i l.from l.end
