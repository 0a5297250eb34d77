-- `encode_cells::put_live` meets its contract: where every cell is counted, they lie end to end; else a case for each size of a word.
-- Assumes nothing.
use native.Mathlib.Omega.{arith}
use Rattle.array.specs.Meaning.{order_of}
use Rattle.live_cells.specs.Levels.{shown_in}
use Rattle.encode_cells.proofs.Placing.{laid_as}
use Rattle.encode_cells.proofs.Packing.{all_pieces, all_long}
use Rattle.encode_cells.proofs.put_live.Goals as goal

pub copy_cells-requires : goal.copy_cells-requires
copy_cells-requires c =
    let a = c.args in
    let long = all_long (order_of a.order) a.size a.s.now (shown_in a.live.level) c.requires.1 a.live.counted c.if-live.true in
    (omega (arith, c.requires.2, long), omega (arith, c.requires.1))

pub returns-then-live : goal.returns-then-live
returns-then-live c =
    let a = c.args in
    laid_as a.to a.out.now c.copy_cells.ensures
    (all_pieces (order_of a.order) a.size a.s.now (shown_in a.live.level) a.live.counted c.if-live.true)
