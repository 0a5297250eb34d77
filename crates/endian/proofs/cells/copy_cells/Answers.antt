-- `endian::cells::copy_cells`: little order copies, big order reverses.
-- Assumes nothing.
use mathlib.Core.Path.{ap}
use lib.ListN.{drop}
use Rattle.array.specs.Meaning.{order_of}
use Rattle.endian.proofs.CellLaws.{copied_little}
use Rattle.endian.proofs.cells.copy_cells.Goals as goal

pub returns-in-Little : goal.returns-in-Little
returns-in-Little c =
    let a = c.args in
    copied_little a.to a.size a.cells (drop a.at a.s.now) a.out.now (ap order_of c.in-Little.is) c.copy_many.ensures
