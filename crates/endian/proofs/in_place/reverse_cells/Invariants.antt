-- `endian::in_place::reverse_cells`: the first i cells are reversed, by the laws for any size (Copying).
-- Assumes nothing.
use Rattle.endian.proofs.Copying.{Copies}
use Rattle.endian.proofs.in_place.reverse_cells.Given as goal

abbrev pub invariant-loop-i : goal.invariant-loop-i
invariant-loop-i l = Copies l.initial.bytes l.at l.initial.bytes l.at l.size l.cells l.bytes l.i
