-- `put_data` meets its contract, by the laws of Copying (proofs/Writing).
-- Assumes nothing.
use Rattle.migrate_step.proofs.Writing.{Copying}
use Rattle.migrate_step.proofs.put_data.Given as goal

abbrev pub invariant-loop : goal.invariant-loop
invariant-loop l = Copying l.cells l.bytes l.fn.area l.at l.area l.counter l.from l.to
