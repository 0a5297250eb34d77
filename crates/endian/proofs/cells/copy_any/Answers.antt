-- `endian::cells::copy_any`: copied, and then reversed where they lie (Reversing).
-- Assumes nothing.
use Rattle.endian.proofs.Reversing.{copied_reversed}
use Rattle.endian.proofs.cells.copy_any.Goals as goal

pub returns : goal.returns
returns c =
    let a = c.args in
    copied_reversed a.size a.cells a.s.now a.out.now a.at a.to c.requires.0 c.requires.1 c.copy_bytes.ensures
    c.reverse_any.ensures.bytes
