-- `buffer::field::put_number`: the lowest bytes of the eight, laid over the output (Numbers).
-- Assumes nothing.
use Rattle.buffer.proofs.Numbers.{few_written}
use Rattle.buffer.proofs.field.put_number.Goals as goal

pub returns : goal.returns
returns g c = few_written g.row.N c.args.at c.args.v c.args.out.now c.requires.0 c.requires.1 c.to_le_bytes.ensures c.copy_from_slice.ensures.after
