-- A content and a frame of the cells that a level counts: what they are, how long they are, and how a frame is laid over an output.
-- Assumes nothing.
use Rattle.std.proofs.Common.{◌≡◌, ◌≤◌, ◌+◌, ◌-◌, ◌*◌, ℕ, List, length, map, refl, sym, ap, ap₂, ◌∙◌, arith}
use native.Mathlib.Nat.{mul-le-mul_right}
use Rattle.array.specs.Buffers.{over_at}
use Rattle.array.specs.Bytes.{le}
use Rattle.array.specs.Content.{Content}
use Rattle.array.specs.Kind.{Kind, ordered}
use Rattle.array.specs.Lists.{joined, pieces}
use Rattle.array.specs.Meaning.{kind_of, masks_of, order_of, width_of, place_of}
use Rattle.array.specs.declared.kind.ByteOrder.{ByteOrder}
use Rattle.array.specs.declared.kind.IndexWidth.{IndexWidth}
use Rattle.array.specs.declared.kind.IndexPlace.{IndexPlace}
use Rattle.array.specs.declared.kind.Kind as declared
use Rattle.array.specs.declared.kind.Values.TheVariants.{Fixed, Ragged}
use Rattle.codec.specs.Mask.{mask_form}
use Rattle.codec.specs.Ragged.{put_ragged}
use Rattle.codec.proofs.Frames.{length-wrap}
use Rattle.live_cells.specs.Live.{live_mask}
use Rattle.live_cells.specs.declared.Counted.{Counted}
use Rattle.live_cells.proofs.LiveMarks.{count_all}
use Rattle.live_cells.proofs.Levels.{level_count, count_at}
use Rattle.encode_cells.proofs.Placing.{at_none}
use Rattle.encode_masks.proofs.Blocks.{live_mask_long}
use Rattle.encode_values.specs.Ready.{Encodable}
use Rattle.encode_values.specs.Stored.{level_of, values_from, stored_from, mask_from, frame_from}
use Rattle.encode_values.proofs.Framing.{frame_laid}
use Rattle.encode_values.proofs.Forms.{encodable_planes, fixed_source, fixed_all, fixed_wrote, ragged_all}
use Rattle.encode_values.proofs.Levels.{stored_none, stored_values_lem, stored_frame, flat_stored}

-- what a content is, case by case
pub ruleset content_laws = (level_count, stored_none, stored_values_lem, stored_frame, at_none)

-- ---- a frame: lengths, mask and content lie behind one another

-- the planes of the levels above the content that a frame holds
pub planes_above : {k : Kind} {n : ℕ} {c : Content} → Encodable k n c → (l : ℕ) → l + 1 ≤ k.depth → (l + 1) * n ≤ length c.masks
planes_above {k} {n} r l h = omega (arith, mul-le-mul_right {m = l + 1} {n = k.depth} n h, (encodable_planes r).planes)

-- its level counts these cells
pub frame_put : (k : declared.Kind) (c : Content) (left : ℕ) (live : Counted) → live.level.masks.now ≡ c.masks → live.level.depth ≡ level_of (kind_of k) left
    → (at : ℕ) (out : List ℕ) {n m : ℕ} {o1 o2 o3 o4 : List ℕ} → n ≡ (mask_form (masks_of k.masks)).size live.count
    → m ≡ length (stored_from (kind_of k) live.level.cells c (left - 1)) → at + length (frame_from (kind_of k) live.level.cells c left) ≤ length out
    → o1 ≡ over_at (at + 16 + n) (stored_from (kind_of k) live.level.cells c (left - 1)) out
    → o2 ≡ over_at (at + 16) (live_mask (masks_of k.masks) live.level.cells live.level.masks.now live.level.depth) o1
    → o3 ≡ over_at (at + 8) (le 8 m) o2 → o4 ≡ over_at at (le 8 n) o3 → o4 ≡ over_at at (frame_from (kind_of k) live.level.cells c left) out
frame_put k c left live em el at out {n} {m} {o1} {o2} {o3} {o4} en es h e1 e2 e3 e4 =
    let cells : ℕ = live.level.cells in
    let mask : List ℕ = mask_from (kind_of k) cells c left in
    let below : List ℕ = stored_from (kind_of k) cells c (left - 1) in
    let long : n ≡ length mask =
    en ∙ ap (mask_form (masks_of k.masks)).size (count_at live em el) ∙ sym (live_mask_long (masks_of k.masks) cells c.masks (level_of (kind_of k) left)) in
    frame_laid at mask below out (sym long) (sym es) (omega (arith, h, long, es, length-wrap mask below)) e1
    (e2 ∙ ap₂ (λ (ms : List ℕ) (l : ℕ). over_at (at + 16) (live_mask (masks_of k.masks) cells ms l) o1) em el) e3 e4

-- how long its parts are
pub ruleset frame_laws = (length-wrap, live_mask_long, count_at, planes_above)

-- ---- at depth 0 there is no frame, and all cells count

module _ (k : declared.Kind) {n : ℕ} {c : Content} (r : Encodable (kind_of k) n c) (z : k.depth ≤ 0) where
  none : k.depth ≡ 0
  none = omega arith

  flat : stored_from (kind_of k) n c k.depth ≡ values_from (kind_of k) n c
  flat = flat_stored (kind_of k) none r.some c

  module _ {s : ℕ} {o : ByteOrder} (e : k.values ≡ Fixed s o) where
    pub fixed_stored : stored_from (kind_of k) n c k.depth ≡ joined (map (ordered (order_of o)) (pieces s n c.values))
    fixed_stored = flat ∙ sym (fixed_all k r e none)

    pub fixed_stored_long : length (stored_from (kind_of k) n c k.depth) ≡ n * s
    fixed_stored_long = ap length flat ∙ sym (fixed_wrote k r e refl refl (count_all n c.masks none))

  pub ragged_stored : {w : IndexWidth} {p : IndexPlace} → k.values ≡ Ragged w p
      → stored_from (kind_of k) n c k.depth ≡ put_ragged (width_of w) (place_of p) (record { values = c.values; offsets = c.offsets })
  ragged_stored e = flat ∙ sym (ragged_all k r e none)

pub ruleset stored_laws = (fixed_stored, fixed_stored_long, fixed_source)
