-- `run_length` meets its contract, by the laws of RunLaws.
-- Assumes nothing.
use Rattle.decode_cells.proofs.RunLaws.{Running}
use Rattle.decode_cells.proofs.runs.run_length.Given as goal

abbrev pub invariant-loop-e : goal.invariant-loop-e
invariant-loop-e l = Running l.set l.plane l.i l.e
