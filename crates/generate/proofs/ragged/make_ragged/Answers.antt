-- `ragged::make_ragged` meets its contract: which output is too short, or that all was drawn.
-- Assumes nothing.
use mathlib.Core.Path.{refl, sym}
use native.Mathlib.Omega.{arith}
use borrow.Author.Rules.{rules}
use borrow.Author.Tests.{leb-true, leb-false}
use Rattle.array.specs.Limits.{most_cells}
use Rattle.array.specs.Content.{layout}
use Rattle.array.specs.Outcome.{content_array}
use Rattle.array.proofs.Putting.{without_masks_lem, no_values, no_offsets, put}
use Rattle.generate.specs.Cells.{lengthy}
use Rattle.generate.specs.Loads.{cells_of, bytes_of}
use Rattle.generate.proofs.Making.{count_masks, count_offsets, planes_small, ragged_total}
use Rattle.generate.proofs.ragged.make_ragged.Goals as goal

pub overflow_mul-planes : goal.overflow_mul-planes
overflow_mul-planes c = omega (arith, planes_small c.args.load.limited)

pub overflow_add-count : goal.overflow_add-count
unfolding most_cells
overflow_add-count c = search rules

pub returns-then-masks-planes : goal.returns-then-masks-planes
returns-then-masks-planes c =
    let a = c.args in
    let l = a.load in
    without_masks_lem (layout lengthy l.depth (cells_of lengthy l)) (content_array a.masks.now a.values.now a.offsets.now) _
    (count_masks lengthy l.depth l.n l.first.state) c.if-masks-planes.true

pub returns-then-offsets-count : goal.returns-then-offsets-count
returns-then-offsets-count c =
    let a = c.args in
    let l = a.load in
    no_offsets (layout lengthy l.depth (cells_of lengthy l)) (content_array a.masks.now a.values.now a.offsets.now) _
    (count_offsets lengthy l.depth l.n l.first.state) c.if-offsets-count.true

pub returns-then-not-has_room : goal.returns-then-not-has_room
returns-then-not-has_room c =
    let a = c.args in
    let l = a.load in
    no_values (layout lengthy l.depth (cells_of lengthy l)) (content_array a.masks.now a.values.now a.offsets.now) _ refl
    (leb-false (bytes_of lengthy l) _ (sym (c.if-not-has_room.ensures (bytes_of lengthy l) (λ n h. search rules) (omega (arith, ragged_total l)))))

pub draw_cells-bytes-requires : goal.draw_cells-bytes-requires
draw_cells-bytes-requires c =
    let l = c.args.load in
    let fits = leb-true (bytes_of lengthy l) _ (sym (c.if-not-has_room.ensures (bytes_of lengthy l) (λ n h. search rules) (omega (arith, ragged_total l)))) in
    record { for_masks = c.if-masks-planes.false; for_values = fits; for_offsets = c.if-offsets-count.false }

pub returns : goal.returns
returns c =
    let a = c.args in
    let l = a.load in
    let drawn = c.draw_cells-bytes.ensures in
    let fits = leb-true (bytes_of lengthy l) _ (sym (c.if-not-has_room.ensures (bytes_of lengthy l) (λ n h. search rules) (omega (arith, ragged_total l)))) in
    put (layout lengthy l.depth (cells_of lengthy l)) (content_array a.masks.now a.values.now a.offsets.now) _ _ _
    (count_masks lengthy l.depth l.n l.first.state) (sym drawn.counts) (count_offsets lengthy l.depth l.n l.first.state)
    c.if-masks-planes.false (omega (arith, fits, drawn.counts)) c.if-offsets-count.false _ _ _ drawn.planes drawn.joins drawn.places
