-- `word::big_number_at`: the bytes behind zeros are a number of eight bytes (Numbers).
-- Assumes nothing.
use Rattle.std.proofs.Common.{rules}
use Rattle.buffer.proofs.Numbers.{few_read_back}
use Rattle.word.proofs.big_number_at.Goals as goal

pub returns : goal.returns
returns g c =
    few_read_back g.row.N c.args.at c.args.s.now c.requires.0 c.requires.1 {x = c.copy_from_slice.new.self} (search rules) c.from_be_bytes.ensures
