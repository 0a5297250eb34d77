-- `ragged::draw_cells` meets its contract, by the laws of Making.
-- Assumes nothing.
use Rattle.generate.specs.Cells.{lengthy}
use Rattle.generate.proofs.Making.{Making, Placing}
use Rattle.generate.proofs.ragged.draw_cells.Given as goal

abbrev pub invariant-loop-at : goal.invariant-loop-at
invariant-loop-at l =
    Making lengthy l.load.depth l.load.n l.initial.g.state l.initial.masks l.initial.values l.masks l.values l.g.state l.at l.to
    × Placing lengthy l.load.depth l.load.n l.initial.g.state l.initial.offsets l.offsets l.g.state l.at l.to
