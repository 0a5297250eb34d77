-- `store_run` meets its contract: the first i of the run lie in place (proofs/StoringCells).
-- Assumes nothing.
use Prim.Native.Nat.{◌≤◌}
use Rattle.subset.proofs.StoringCells.{RunLaid}
use Rattle.subset.proofs.store_run.Given as goal

abbrev pub invariant-loop-i : goal.invariant-loop-i
invariant-loop-i l = (l.i ≤ l.n) × RunLaid l.initial.cells l.at l.first l.n l.cells l.i
