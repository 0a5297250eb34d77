-- `encode_index::put_live_index` meets its contract: all offsets, or offset 0 and then the ends.
-- Assumes nothing.
use mathlib.Core.Path.{ap}
use native.Mathlib.Omega.{arith}
use lib.ListN.{length}
use Rattle.array.specs.Meaning.{width_of}
use Rattle.codec.specs.Ragged.{index_of}
use Rattle.encode_cells.proofs.Placing.{laid_as}
use Rattle.encode_data.specs.Values.{live_ends}
use Rattle.encode_data.proofs.Spans.{all_ends}
use Rattle.encode_index.proofs.IndexLaid.{index_laid}
use Rattle.encode_index.proofs.put_live_index.Goals as goal

pub put_index-requires : goal.put_index-requires
put_index-requires c =
    let live = c.args.places.live in
    let full = all_ends c.args.places.rising live.level.masks.now live.level.depth live.counted c.if-live.true in
    omega (arith, c.requires, ap length (ap (index_of (width_of c.args.width)) full))

pub returns-then-live : goal.returns-then-live
returns-then-live c =
    let live = c.args.places.live in
    let full = all_ends c.args.places.rising live.level.masks.now live.level.depth live.counted c.if-live.true in
    laid_as c.args.to c.args.out.now c.put_index.ensures (ap (index_of (width_of c.args.width)) full)

pub returns-else-live : goal.returns-else-live
returns-else-live c =
    let a = c.args in
    index_laid a.to (live_ends a.places) a.out.now c.requires c.width_bytes.ensures c.put_offset.ensures c.put_live_ends.ensures
