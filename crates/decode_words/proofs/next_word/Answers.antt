-- `next_word` meets its contract: a word where one is left, else 0 (SpreadingValues).
-- Assumes nothing.
use Rattle.array.specs.Meaning.{order_of}
use Rattle.decode_words.proofs.SpreadingValues.{word_none}
use Rattle.decode_words.proofs.next_word.Goals as goal

pub returns-else-k-cells : goal.returns-else-k-cells
returns-else-k-cells c =
    word_none c.args.size.bytes (order_of c.args.order) c.args.s.now c.args.at c.args.k
    c.args.cells c.if-k-cells.false
