-- `buffer::field::read`, by the laws on a field of any width and refusal.
-- Assumes nothing.
use native.Mathlib.Omega.{arith}
use Rattle.array.specs.Meaning.{number_of}
use Rattle.buffer.proofs.Fields.{field_short, field_full}
use Rattle.buffer.proofs.field.read.Goals as goal

pub returns-then-s-at : goal.returns-then-s-at
returns-then-s-at g c =
    let a = c.args in field_short g.row.N (number_of a.short) a.s.now a.at (omega arith)

pub returns-then-s-at-2 : goal.returns-then-s-at-2
returns-then-s-at-2 g c =
    let a = c.args in field_short g.row.N (number_of a.short) a.s.now a.at (omega arith)

pub returns : goal.returns
returns g c =
    let a = c.args in field_full g.row.N (number_of a.short) a.s.now a.at (omega arith) c.number_at.ensures
