-- `cell::draw_few` meets its contract, by the laws of Drawing.
-- Assumes nothing.
use Rattle.generate.proofs.Drawing.{Storing}
use Rattle.generate.proofs.cell.draw_few.Given as goal

abbrev pub invariant-loop-i : goal.invariant-loop-i
invariant-loop-i l = Storing l.n l.initial.g.state l.initial.values l.to l.values l.g.state l.i
