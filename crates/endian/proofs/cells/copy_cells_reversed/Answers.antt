-- `endian::cells::copy_cells_reversed`: by cases on the size, each by its callee; cells of one byte are copied.
-- Assumes nothing.
use lib.ListN.{drop}
use Rattle.endian.proofs.CellLaws.{copied_ones}
use Rattle.endian.proofs.cells.copy_cells_reversed.Goals as goal

pub returns-in-1 : goal.returns-in-1
returns-in-1 c =
    let a = c.args in copied_ones a.to a.cells (drop a.at a.s.now) a.out.now c.in-1.is c.copy_many.ensures
