-- `interleaved::vlen_v2::copy_cells` meets its contract, by the laws of Copying.
-- Assumes nothing.
use Rattle.decode_interleaved.proofs.Loops.{Copying}
use Rattle.decode_interleaved.proofs.vlen_v2.copy_cells.Given as goal

abbrev pub invariant-loop-i : goal.invariant-loop-i
invariant-loop-i l = Copying l.cells l.bytes l.initial.values l.values l.initial.offsets l.offsets l.i l.at l.to
