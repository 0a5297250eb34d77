-- `endian::cells::copy_large`: the first i cells lie there, by the laws for any size (Copying).
-- Assumes nothing.
use Rattle.endian.proofs.Copying.{copies_next}
use Rattle.endian.proofs.cells.copy_large.Goals as goal

pub loop-i-preserved : goal.loop-i-preserved
loop-i-preserved c = copies_next c.loop-i.invariant c.loop-i-test.true c.copy_cell.ensures
