-- `put_pair` meets its contract, by the laws of PairLaws.
-- Assumes nothing.
use Rattle.decode_cells.proofs.PairLaws.{pair_laid}
use Rattle.decode_cells.proofs.pairs.put_pair.Goals as goal

pub returns : goal.returns
returns c =
    let args = c.args in
    pair_laid args.at args.x args.y args.out.now c.requires c.put_word.ensures c.put_word-2.ensures
