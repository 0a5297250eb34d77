-- `endian::cells::copy_large`: the first i cells lie there, by the laws for any size (Copying).
-- Assumes nothing.
use Rattle.endian.proofs.Copying.{Copies}
use Rattle.endian.proofs.cells.copy_large.Given as goal

abbrev pub invariant-loop-i : goal.invariant-loop-i
invariant-loop-i l = Copies l.initial.out l.to l.s l.at l.size l.cells l.out l.i
