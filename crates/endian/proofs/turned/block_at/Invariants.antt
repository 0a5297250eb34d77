-- `endian::turned::block_at`: the first i cells lie there, by the laws for any size (Copying).
-- Assumes nothing.
use Prim.Native.Nat.{◌/◌}
use Rattle.endian.proofs.Copying.{Copies}
use Rattle.endian.proofs.turned.block_at.Given as goal

abbrev pub invariant-loop-i : goal.invariant-loop-i
invariant-loop-i l = Copies l.initial.block 0 l.s l.at l.size.bytes (32 / l.size.bytes) l.block l.i
