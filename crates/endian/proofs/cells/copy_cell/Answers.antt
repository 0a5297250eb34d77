-- `endian::cells::copy_cell`: the last bytes lie there, sixteen a turn (Backing).
-- Assumes nothing.
use native.Mathlib.Omega.{arith}
use Rattle.endian.proofs.Backing.{back_more, back_cast}
use Rattle.endian.proofs.cells.copy_cell.Goals as goal

pub loop-i-preserved : goal.loop-i-preserved
loop-i-preserved c =
    back_cast (back_more c.loop-i.invariant 16 (omega (arith, c.loop-i-test.true, c.requires.0)) c.copy_cell_16.ensures)
    (omega arith) (omega arith)
