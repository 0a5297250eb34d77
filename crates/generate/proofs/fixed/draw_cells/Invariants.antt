-- `fixed::draw_cells` meets its contract, by the laws of Making.
-- Assumes nothing.
use Rattle.generate.specs.Cells.{sized}
use Rattle.generate.proofs.Making.{Making}
use Rattle.generate.proofs.fixed.draw_cells.Given as goal

abbrev pub invariant-loop-at : goal.invariant-loop-at
invariant-loop-at l = Making (sized l.size) l.load.depth l.load.n l.initial.g.state l.initial.masks l.initial.values l.masks l.values l.g.state l.at l.to
