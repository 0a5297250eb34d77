-- `encode_cells::put_all`: little order copies, big order reverses (CellLaws).
-- Assumes nothing.
use mathlib.Core.Path.{ap}
use Rattle.array.specs.Meaning.{order_of}
use Rattle.endian.proofs.CellLaws.{copied_little}
use Rattle.encode_cells.proofs.put_all.Goals as goal

pub returns-in-Little : goal.returns-in-Little
returns-in-Little c =
    let a = c.args in
    copied_little 0 a.size a.cells a.s.now a.out.now (ap order_of c.in-Little.is) c.copy_many.ensures
