-- `interleaved::write::put_cells` meets its contract, by the laws of Storing.
-- Assumes nothing.
use Rattle.encode_interleaved.proofs.Storing.{Storing}
use Rattle.encode_interleaved.proofs.write.put_cells.Given as goal

abbrev pub invariant-loop-end : goal.invariant-loop-end
invariant-loop-end l = Storing l.cells l.values l.offsets l.initial.out l.out l.start l.end-index l.at
