-- `cell::mark_levels` meets its contract, by the laws of Drawing and Columns.
-- Assumes nothing.
use Rattle.generate.proofs.Drawing.{Climbing}
use Rattle.generate.proofs.Columns.{Marking}
use Rattle.generate.proofs.cell.mark_levels.Given as goal

abbrev pub invariant-loop-set : goal.invariant-loop-set
invariant-loop-set l = Climbing l.load.depth l.initial.g.state l.g.state l.set × Marking l.initial.masks l.load.n l.at l.masks l.set l.place
