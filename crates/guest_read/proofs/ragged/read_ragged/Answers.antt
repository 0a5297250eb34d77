-- `ragged::read_ragged` meets its contract: which output is too short, or that all was stored.
-- Assumes nothing.
use mathlib.Core.Path.{sym, ap, ◌∙◌, subst}
use mathlib.Core.List.{List}
use Prim.Native.Nat.{ℕ}
use native.Mathlib.Omega.{arith}
use borrow.Author.Tests.{leb-true, leb-false}
use lib.ListN.{length}
use Rattle.array.specs.Buffers.{over}
use Rattle.array.specs.Outcome.{content_array}
use Rattle.array.specs.Kind.{ragged, at_start}
use Rattle.array.proofs.Putting.{without_masks_lem, no_values, no_offsets, put}
use Rattle.encode_data.specs.Offsets.{Offsets}
use Rattle.guest_read.specs.Seen.{bytes_seen, masks_seen, seen_of}
use Rattle.guest_read.proofs.Seen.{last_plane, plane_long, plane_live}
use Rattle.guest_read.proofs.Values.{masks_long, offsets_ok, ragged_long, ragged_most, plane_values, plane_offsets, offsets_long}
use Rattle.guest_read.proofs.ragged.read_ragged.Goals as goal

pub returns-then-out_masks-planes : goal.returns-then-out_masks-planes
returns-then-out_masks-planes c =
    let a = c.args in
    without_masks_lem (seen_of (ragged 8 at_start) a.guest a.array.values.now a.array.offsets.now)
    (content_array a.out_masks.now a.out_values.now a.out_offsets.now) _
    (masks_long (ragged 8 at_start) a.guest a.array.values.now a.array.offsets.now) c.if-out_masks-planes.true

pub returns-then-out_offsets-ends : goal.returns-then-out_offsets-ends
returns-then-out_offsets-ends c =
    let a = c.args in
    no_offsets (seen_of (ragged 8 at_start) a.guest a.array.values.now a.array.offsets.now)
    (content_array a.out_masks.now a.out_values.now a.out_offsets.now) _
    (offsets_long a.guest a.array.values.now a.array.offsets.now c.requires) c.if-out_offsets-ends.true

pub returns-then-not-has_room : goal.returns-then-not-has_room
returns-then-not-has_room c =
    let a = c.args in
    let v = a.array in
    no_values (seen_of (ragged 8 at_start) a.guest v.values.now v.offsets.now) (content_array a.out_masks.now a.out_values.now a.out_offsets.now) _
    (ragged_long a.guest v.values.now v.offsets.now c.requires)
    (leb-false (bytes_seen a.guest v.offsets.now) _ (sym (c.if-not-has_room.ensures (bytes_seen a.guest v.offsets.now) (λ n h. h) (ragged_most a.guest v.values.now v.offsets.now c.requires))))

pub put_seen-bytes-requires : goal.put_seen-bytes-requires
put_seen-bytes-requires c =
    let a = c.args in
    let g = a.guest in
    let vs = a.array.values.now in
    let os = a.array.offsets.now in
    let plane = last_plane g.level.depth g.level.cells c.put_masks.new.out in
    let long = plane_long g.level.cells (masks_seen g) g.masked a.out_masks.now c.put_masks.ensures in
    let live = plane_live g.level.cells (masks_seen g) g.masked a.out_masks.now c.put_masks.ensures in
    let fits = leb-true (bytes_seen g os) _ (sym (c.if-not-has_room.ensures (bytes_seen g os) (λ n h. h) (ragged_most g vs os c.requires))) in (
      subst (λ (n : ℕ). Offsets n os) (sym long) (offsets_ok g vs os c.requires),
      c.requires.2,
      omega (arith, long, c.if-out_offsets-ends.false),
      omega (arith, ap length (plane_values g vs os c.requires plane long live), ragged_long g vs os c.requires, fits),
    )

pub returns : goal.returns
returns c =
    let a = c.args in
    let g = a.guest in
    let vs = a.array.values.now in
    let os = a.array.offsets.now in
    let plane = last_plane g.level.depth g.level.cells c.put_masks.new.out in
    let long = plane_long g.level.cells (masks_seen g) g.masked a.out_masks.now c.put_masks.ensures in
    let live = plane_live g.level.cells (masks_seen g) g.masked a.out_masks.now c.put_masks.ensures in
    let values = plane_values g vs os c.requires plane long live in
    let shown = c.put_seen-bytes.ensures in
    let wrote = shown.wrote ∙ ap length values in
    let fits = leb-true (bytes_seen g os) _ (sym (c.if-not-has_room.ensures (bytes_seen g os) (λ n h. h) (ragged_most g vs os c.requires))) in
    put (seen_of (ragged 8 at_start) g vs os) (content_array a.out_masks.now a.out_values.now a.out_offsets.now) _ _ _
    (masks_long (ragged 8 at_start) g vs os) (sym wrote) (offsets_long g vs os c.requires)
    c.if-out_masks-planes.false (omega (arith, wrote, ragged_long g vs os c.requires, fits)) c.if-out_offsets-ends.false _ _ _ c.put_masks.ensures
    (shown.bytes ∙ ap (λ (xs : List ℕ). over xs a.out_values.now) values)
    (shown.ends ∙ ap (λ (xs : List ℕ). over xs a.out_offsets.now) (plane_offsets g vs os c.requires plane long live))
