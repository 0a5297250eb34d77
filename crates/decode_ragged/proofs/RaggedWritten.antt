-- Ragged values: what the copying leaves in the outputs m, v and off is the definition's outcome.
-- Assumes nothing.
use mathlib.Core.Path.{◌≡◌, refl, sym, ap, ap₂, ◌∙◌}
use mathlib.Core.Logic.{◌≢◌}
use mathlib.Core.List.{List, ◌∷◌}
use Prim.Native.Nat.{ℕ, suc, ◌+◌, ◌-◌, ◌*◌, ◌≤◌, ◌<◌}
use native.Mathlib.Omega.{arith}
use lib.ListN.{length, take, drop, length-drop, length-take}
use lib.Seq.{length-take-le}
use Rattle.std.specs.Prelude.{Err}
use Rattle.array.specs.declared.refusal.Refusal.{Refusal}
use Rattle.array.proofs.Answers.{wrote}
use Rattle.array.specs.Answer.{gives}
use Rattle.array.specs.Kind.{Masks}
use Rattle.array.specs.Content.{Content, unmasked}
use Rattle.array.specs.Buffers.{over, read_outcome}
use Rattle.array.specs.Outcome.{content_array, outcome_array}
use Rattle.codec.specs.Mask.{mask_form}
use Rattle.codec.specs.Frame.{count_set}
use Rattle.stored_index.specs.declared.Index.{Index}
use Rattle.stored_index.specs.Index.{offsets_in, ragged_at, IndexWithin}
use Rattle.decode_offsets.specs.Ends.{ends_by, EndsStored}
use Rattle.decode_offsets.proofs.CopyingOffsets.{length_offsets}
use Rattle.decode_planes.specs.Within.{planes_in, innermost_in}
use Rattle.decode_planes.proofs.AllPlanes.{innermost_read}
use Rattle.decode_ragged.specs.Nested.{RaggedWithin}
use Rattle.decode_planes.proofs.Outcomes.{short_masks, short_values, short_offsets, all_written}
use Rattle.decode_ragged.proofs.RaggedLaws.{content, nested_masks, nested_count, nested_values, nested_offsets, nested_masks_long, nested_values_long, nested_offsets_long}

-- ---- with no mask

module _ {w : ℕ} {s : List ℕ} {i : Index} (r : IndexWithin w s i) (v off : List ℕ) where
  abbrev flat : Content
  flat = unmasked (ragged_at w s i)

  flat_values : length flat.values ≡ i.last
  flat_values = length-take-le i.last (drop i.from s) (omega (arith, length-drop i.from s, r.data_room))

  flat_offsets : length flat.offsets ≡ i.cells + 1
  flat_offsets = omega (arith, length_offsets w (suc i.cells) (drop i.index s))

  pub flat_short_values : length v < i.last → (m : List ℕ) → outcome_array (Err Refusal.Output) m v off ≡ read_outcome (content_array m v off) (gives flat)
  flat_short_values h m = short_values flat m v off (omega (arith, flat_values))

  pub flat_short_offsets : length off < i.cells + 1 → (m : List ℕ) → outcome_array (Err Refusal.Output) m v off ≡ read_outcome (content_array m v off) (gives flat)
  flat_short_offsets h m = short_offsets flat m v off (omega (arith, flat_offsets))

  pub flat_written : i.last ≤ length v → i.cells + 1 ≤ length off → {v' o' : List ℕ} → v' ≡ over flat.values v → o' ≡ over flat.offsets off → (m : List ℕ)
      → outcome_array (wrote 0 i.last (i.cells + 1)) m v' o' ≡ read_outcome (content_array m v off) (gives flat)
  flat_written h j {v'} {o'} ev eo m =
      all_written flat m v off (omega arith) (omega (arith, flat_values)) (omega (arith, flat_offsets)) {a = 0} {m' = m} refl (sym flat_values) (sym flat_offsets) refl ev eo

-- ---- below masks

pub nested_ends : {x : Masks} {w d : ℕ} {s : List ℕ} {n : ℕ} {i : Index} → RaggedWithin x w d s n i → EndsStored w s i.index i.cells i.last
nested_ends r = record { room = omega (arith, r.index.index_room); first_is = r.index.first_is; last_is = r.index.last_is }

module _ {x : Masks} {w d : ℕ} {s : List ℕ} {n : ℕ} {i : Index} (r : RaggedWithin x w d s n i) (g : d ≢ 0) (m v off : List ℕ) where
  pub nested_short_masks : length m < d * n → outcome_array (Err Refusal.Output) m v off ≡ read_outcome (content_array m v off) (gives (content r g))
  nested_short_masks h = short_masks (content r g) m v off (omega (arith, nested_masks_long r g))

  pub nested_short_values : length v < i.last → outcome_array (Err Refusal.Output) m v off ≡ read_outcome (content_array m v off) (gives (content r g))
  nested_short_values h = short_values (content r g) m v off (omega (arith, nested_values_long r g))

  pub nested_short_offsets : length off < n + 1 → outcome_array (Err Refusal.Output) m v off ≡ read_outcome (content_array m v off) (gives (content r g))
  nested_short_offsets h = short_offsets (content r g) m v off (omega (arith, nested_offsets_long r g))

  -- m' has the planes, of which the innermost is handed on
  module _ {m' : List ℕ} (em : m' ≡ over (planes_in (mask_form x) s n (d - 1)) m) {k : ℕ} (ek : k ≡ n) where
    innermost : take k (drop (d * n - n) m') ≡ innermost_in (mask_form x) s n (d - 1)
    innermost = ap (λ (k : ℕ). take k (drop (d * n - n) m')) ek ∙ innermost_read x s n d r.limits.some r.masks g m em

    pub nested_room : n + 1 ≤ length off → length (take k (drop (d * n - n) m')) + 1 ≤ length off
    nested_room h = omega (arith, length-take k (drop (d * n - n) m'))

    pub nested_set : i.cells ≡ count_set (take k (drop (d * n - n) m'))
    nested_set = nested_count r g ∙ ap count_set (sym innermost)

    pub nested_written : d * n ≤ length m → i.last ≤ length v → n + 1 ≤ length off → {v' o' : List ℕ}
        → v' ≡ over (take i.last (drop i.from s)) v
        → o' ≡ over (0 ∷ ends_by 0 (take k (drop (d * n - n) m')) (offsets_in w (count_set (take k (drop (d * n - n) m'))) (drop (i.index + w) s))) off
        → outcome_array (wrote (d * n) i.last (n + 1)) m' v' o' ≡ read_outcome (content_array m v off) (gives (content r g))
    nested_written h j l {v'} {o'} ev eo =
        let lm : length (content r g).masks ≡ d * n = nested_masks_long r g in
        let lv : length (content r g).values ≡ i.last = nested_values_long r g in
        let lo : length (content r g).offsets ≡ n + 1 = nested_offsets_long r g in
        all_written (content r g) m v off (omega arith) (omega arith) (omega arith) (sym lm) (sym lv) (sym lo)
        (em ∙ ap (λ (p : List ℕ). over p m) (sym (nested_masks r g)))
        (ev ∙ ap (λ (p : List ℕ). over p v) (sym (nested_values r g)))
        (eo
        ∙ ap₂ (λ (p : List ℕ) (c : ℕ). over (0 ∷ ends_by 0 p (offsets_in w c (drop (i.index + w) s))) off) innermost (sym nested_set)
        ∙ ap (λ (p : List ℕ). over p off) (sym (nested_offsets r g)))
