-- `encode_masks::put_live_mask` meets its contract: by the laws of Blocks.
-- Assumes nothing.
use mathlib.Core.Path.{refl, ◌∙◌}
use native.Mathlib.Omega.{arith}
use Rattle.encode_masks.proofs.Blocks.{blocks_begin, blocks_at, blocks_end, next_block}
use Rattle.encode_masks.proofs.put_live_mask.Goals as goal

pub loop-done-init : goal.loop-done-init
loop-done-init c = (refl, blocks_at (omega arith) (blocks_begin c.args.live.counted c.requires.1))

pub loop-done-preserved : goal.loop-done-preserved
loop-done-preserved c =
    let inv = c.loop-done.invariant in
    let more = next_block inv.1 c.args.live.counted c.loop-done-test.true c.min-m.ensures (omega arith) (omega arith) c.gather_masks-i.ensures c.mask_length.ensures c.put_plane.ensures in
    (c.gather_masks-i.auto.block ∙ inv.0, more)

pub returns-2 : goal.returns-2
returns-2 c =
    let more = next_block c.loop-done.invariant.1 c.args.live.counted c.loop-done-test.true c.min-m.ensures (omega arith) (omega arith) c.gather_masks-i.ensures c.mask_length.ensures c.put_plane.ensures in
    blocks_end more (omega (arith, c.args.live.counted))
