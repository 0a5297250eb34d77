-- `copy_offsets` meets its contract, by the laws of CopyingOffsets.
-- Assumes nothing.
use Rattle.decode_offsets.proofs.CopyingOffsets.{Copied}
use Rattle.decode_offsets.proofs.copy_offsets.Given as goal

abbrev pub invariant-loop-i : goal.invariant-loop-i
invariant-loop-i l = Copied l.w l.n l.s l.initial.offsets l.at l.offsets l.i
