-- `fixed::make_fixed` meets its contract: which output is too short, or that all was drawn.
-- Assumes nothing.
use mathlib.Core.Path.{refl}
use native.Mathlib.Omega.{arith}
use Rattle.array.specs.Content.{layout}
use Rattle.array.specs.Outcome.{content_array}
use Rattle.array.proofs.Putting.{without_masks_lem, no_values, put}
use Rattle.generate.specs.Cells.{sized}
use Rattle.generate.specs.Loads.{cells_of}
use Rattle.generate.proofs.Making.{count_masks, count_values, planes_small, bytes_small}
use Rattle.generate.proofs.fixed.make_fixed.Goals as goal

pub overflow_mul-planes : goal.overflow_mul-planes
overflow_mul-planes c = omega (arith, planes_small c.args.load.limited)

pub overflow_mul-bytes : goal.overflow_mul-bytes
overflow_mul-bytes c = omega (arith, bytes_small c.args.load.limited c.requires)

pub returns-then-masks-planes : goal.returns-then-masks-planes
returns-then-masks-planes c offsets =
    let a = c.args in
    without_masks_lem (layout (sized a.size) a.load.depth (cells_of (sized a.size) a.load)) (content_array a.masks.now a.values.now offsets) _
    (count_masks (sized a.size) a.load.depth a.load.n a.load.first.state) c.if-masks-planes.true

pub returns-then-values-bytes : goal.returns-then-values-bytes
returns-then-values-bytes c offsets =
    let a = c.args in
    no_values (layout (sized a.size) a.load.depth (cells_of (sized a.size) a.load)) (content_array a.masks.now a.values.now offsets) _
    (count_values a.size a.load.depth a.load.n a.load.first.state) c.if-values-bytes.true

pub returns : goal.returns
returns c offsets =
    let a = c.args in
    put (layout (sized a.size) a.load.depth (cells_of (sized a.size) a.load)) (content_array a.masks.now a.values.now offsets) _ _ 0
    (count_masks (sized a.size) a.load.depth a.load.n a.load.first.state) (count_values a.size a.load.depth a.load.n a.load.first.state) refl
    c.if-masks-planes.false c.if-values-bytes.false (omega arith) _ _ offsets c.draw_cells.ensures.planes c.draw_cells.ensures.joins refl
