-- `run_end` meets its contract, by the laws of Showing.
-- Assumes nothing.
use Rattle.shown_cells.specs.Shown.{Alike}
use Rattle.shown_cells.proofs.run_end.Given as goal

abbrev pub invariant-loop-e : goal.invariant-loop-e
invariant-loop-e l = Alike l.plane l.shown l.i l.e
