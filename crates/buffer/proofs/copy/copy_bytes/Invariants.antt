-- `buffer::copy::copy_bytes` meets its contract, by the laws of Copying.
-- Assumes nothing.
use Rattle.buffer.proofs.Copying.{Copying}
use Rattle.buffer.proofs.copy.copy_bytes.Given as goal

abbrev pub invariant-loop-i : goal.invariant-loop-i
invariant-loop-i l = Copying l.initial.out l.to l.s l.at l.k l.out l.i
