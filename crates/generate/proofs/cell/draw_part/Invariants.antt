-- `cell::draw_part` meets its contract, by the laws of Drawing.
-- Assumes nothing.
use Rattle.load.specs.Generator.{draw_bytes}
use Rattle.generate.proofs.Drawing.{Storing}
use Rattle.generate.proofs.cell.draw_part.Given as goal

abbrev pub invariant-loop-i : goal.invariant-loop-i
invariant-loop-i l = Storing l.n l.first.state l.initial.values l.to l.values (draw_bytes l.i l.first.state).state l.i
