-- `interleaved::vlen_v2::walk_cells` meets its contract, by the laws of Walking.
-- Assumes nothing.
use Prim.Native.Nat.{◌-◌}
use Rattle.decode_interleaved.proofs.Loops.{Walking}
use Rattle.decode_interleaved.proofs.vlen_v2.walk_cells.Given as goal

abbrev pub invariant-loop : goal.invariant-loop
invariant-loop l = Walking l.cells l.bytes (l.cells - l.counter) l.at l.sum
