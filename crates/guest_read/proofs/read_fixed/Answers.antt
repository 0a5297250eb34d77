-- `read_fixed` meets its contract: which output is too short, or that all was stored.
-- Assumes nothing.
use mathlib.Core.Path.{refl, ap, ◌∙◌}
use mathlib.Core.List.{List, []}
use Prim.Native.Nat.{ℕ}
use native.Mathlib.Omega.{arith}
use Rattle.array.specs.Buffers.{over}
use Rattle.array.specs.Outcome.{content_array}
use Rattle.array.specs.Kind.{fixed, little}
use Rattle.array.proofs.Putting.{without_masks_lem, no_values, put}
use Rattle.guest_read.specs.Seen.{masks_seen, seen_of}
use Rattle.guest_read.proofs.Seen.{last_plane, plane_long, plane_shows}
use Rattle.guest_read.proofs.Values.{masks_long, fixed_long, fixed_seen}
use Rattle.guest_read.proofs.read_fixed.Goals as goal

pub returns-then-out_masks-planes : goal.returns-then-out_masks-planes
returns-then-out_masks-planes c offsets =
    let a = c.args in
    without_masks_lem (seen_of (fixed a.size little) a.guest a.values.now []) (content_array a.out_masks.now a.out_values.now offsets) _
    (masks_long (fixed a.size little) a.guest a.values.now []) c.if-out_masks-planes.true

pub returns-then-out_values-bytes : goal.returns-then-out_values-bytes
returns-then-out_values-bytes c offsets =
    let a = c.args in
    no_values (seen_of (fixed a.size little) a.guest a.values.now []) (content_array a.out_masks.now a.out_values.now offsets) _
    (fixed_long a.size a.guest a.values.now c.requires) c.if-out_values-bytes.true

pub returns : goal.returns
returns c offsets =
    let a = c.args in
    let l = a.guest.level in
    let long = plane_long l.cells (masks_seen a.guest) a.guest.masked a.out_masks.now c.put_masks.ensures in
    let shows = plane_shows l.cells (masks_seen a.guest) a.guest.masked a.out_masks.now c.put_masks.ensures in
    put (seen_of (fixed a.size little) a.guest a.values.now []) (content_array a.out_masks.now a.out_values.now offsets) _ _ 0
    (masks_long (fixed a.size little) a.guest a.values.now []) (fixed_long a.size a.guest a.values.now c.requires) refl
    c.if-out_masks-planes.false c.if-out_values-bytes.false (omega arith) _ _ offsets c.put_masks.ensures
    (c.put_shown.ensures
    ∙ ap (λ (vs : List ℕ). over vs a.out_values.now) (fixed_seen a.size a.guest a.values.now c.requires (last_plane l.depth l.cells c.put_masks.new.out) long shows))
    refl
