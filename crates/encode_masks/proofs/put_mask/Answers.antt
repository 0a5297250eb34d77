-- `encode_masks::put_mask` meets its contract: where every cell is counted, the mask is the plane; each level has the loop of its own.
-- Assumes nothing.
use mathlib.Core.Path.{ap}
use Rattle.array.specs.Meaning.{masks_of}
use Rattle.codec.specs.Mask.{mask_form}
use Rattle.encode_cells.proofs.Placing.{laid_as}
use Rattle.encode_cells.proofs.Packing.{mask_all}
use Rattle.encode_masks.proofs.put_mask.Goals as goal

pub returns-then-live-cells : goal.returns-then-live-cells
returns-then-live-cells c =
    let live = c.args.live in
    let v = live.level in
    let same = mask_all v.cells v.masks.now v.depth c.requires.0 live.counted c.if-live-cells.true in
    laid_as c.args.to c.args.out.now c.put_plane.ensures (ap (mask_form (masks_of c.args.form)).put same)
