-- `buffer::field::number_at`: the bytes and zeros after them are a number of eight bytes (Numbers).
-- Assumes nothing.
use Rattle.std.proofs.Common.{rules}
use Rattle.buffer.proofs.Numbers.{few_read}
use Rattle.buffer.proofs.field.number_at.Goals as goal

pub returns : goal.returns
returns g c = few_read g.row.N c.args.at c.args.s.now c.requires.0 c.requires.1 {x = c.copy_from_slice.new.self} (search rules) c.from_le_bytes.ensures
