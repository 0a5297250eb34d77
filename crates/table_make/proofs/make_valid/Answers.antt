-- `make_valid` meets its contract: which output is too short, or that all was stored, by the laws of Making.
-- Assumes nothing.
use mathlib.Core.Path.{sym}
use native.Mathlib.Omega.{arith}
use borrow.Author.Tests.{leb-true, leb-false}
use Rattle.table_make.specs.Rested.{content_of}
use Rattle.table_make.proofs.Making.{without_masks_lem, no_starts, no_lengths, no_store, all_stored, store_long, store_most}
use Rattle.table_make.proofs.make_valid.Goals as goal

pub returns-then-out_masks-planes : goal.returns-then-out_masks-planes
returns-then-out_masks-planes c =
    let l = c.args.array.places.live.level in
    without_masks_lem l.depth l.cells (content_of c.args.array) _ c.if-out_masks-planes.true

pub returns-then-out_starts-level : goal.returns-then-out_starts-level
returns-then-out_starts-level c =
    let l = c.args.array.places.live.level in
    no_starts l.depth l.cells (content_of c.args.array) _ c.if-out_starts-level.true

pub returns-then-out_lengths-level : goal.returns-then-out_lengths-level
returns-then-out_lengths-level c =
    let l = c.args.array.places.live.level in
    no_lengths l.depth l.cells (content_of c.args.array) _ c.if-out_lengths-level.true

pub returns-then-not-has_room : goal.returns-then-not-has_room
returns-then-not-has_room c =
    let v = c.args.array in
    let l = v.places.live.level in
    no_store l.depth l.cells (content_of v) _ (leb-false _ _ (sym (c.if-not-has_room.ensures _ (λ n h. store_long v h) (store_most v))))

pub put-bytes-requires : goal.put-bytes-requires
put-bytes-requires c =
    let v = c.args.array in
    let fits = leb-true _ _ (sym (c.if-not-has_room.ensures _ (λ n h. store_long v h) (store_most v))) in
    omega (arith, fits)

pub returns : goal.returns
returns c =
    let v = c.args.array in
    let l = v.places.live.level in
    let fits = leb-true _ _ (sym (c.if-not-has_room.ensures _ (λ n h. store_long v h) (store_most v))) in
    all_stored l.depth l.cells (content_of v) _ c.if-out_masks-planes.false c.if-out_starts-level.false c.if-out_lengths-level.false fits
    c.put-bytes.ensures.wrote c.put_planes.ensures c.put_places.ensures.starts c.put_places.ensures.lengths c.put-bytes.ensures.bytes
