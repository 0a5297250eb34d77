-- `buffer::copy::copy_bytes` meets its contract, by the laws of Copying.
-- Assumes nothing.
use Rattle.buffer.proofs.Copying.{copy_more}
use Rattle.buffer.proofs.copy.copy_bytes.Goals as goal

pub loop-i-preserved : goal.loop-i-preserved
loop-i-preserved c = copy_more c.loop-i.invariant c.loop-i-test.true
