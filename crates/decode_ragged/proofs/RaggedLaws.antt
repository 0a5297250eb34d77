-- Ragged values: what the copying leaves is the definition's, and how the reader answers by the walk and the check.
-- Assumes nothing.
use mathlib.Core.Path.{◌≡◌, refl, sym, ap, ap₂, ◌∙◌}
use mathlib.Core.Logic.{◌≢◌}
use mathlib.Core.List.{List, [], ◌∷◌, ◌++◌}
use Prim.Native.Nat.{ℕ, zero, suc, ◌+◌, ◌-◌, ◌*◌, ◌≤◌}
use native.Mathlib.Omega.{arith}
use native.Mathlib.Nat.{add-zero, zero-mul}
use lib.ListN.{length, take, drop, length-drop}
use lib.Seq.{length-take-le}
use Rattle.array.specs.Answer.{Answer, gives, refuses, and_then}
use Rattle.array.specs.Lists.{joined}
use Rattle.array.specs.Kind.{Masks, Place, Form, ragged}
use Rattle.array.specs.Offsets.{RisingFrom, last_from, slices, slices_from, ends, offsets_of}
use Rattle.array.specs.Cells.{Value, Cell}
use Rattle.array.specs.Content.{Content, RaggedContent, unmasked, layout}
use Rattle.array.proofs.Offsets.{rising_le, length-ends, length-slices_from, joined-slices}
use Rattle.codec.specs.Mask.{MaskForm, mask_form}
use Rattle.codec.specs.Frame.{count_set}
use Rattle.codec.specs.Spread.{spread}
use Rattle.codec.specs.Ragged.{get_ragged}
use Rattle.codec.specs.Values.{get_values}
use Rattle.codec.specs.Calls.{read_in}
use Rattle.codec.proofs.SpreadLaws.{length-spread}
use Rattle.codec.proofs.Flat.{flat_read}
use Rattle.stored_index.specs.declared.Index.{Index}
use Rattle.stored_frames.specs.Walk.{walked}
use Rattle.stored_frames.specs.Stored.{cells_from, answer_by}
use Rattle.stored_index.specs.Index.{ends_in}
use Rattle.stored_frames.proofs.Reading.{innermost_some, read_walked}
use Rattle.stored_frames.proofs.Walks.{WalkPassed, passed_count}
use Rattle.stored_index.proofs.CheckedIndex.{IndexChecked}
use Rattle.decode_offsets.specs.Ends.{ends_by}
use Rattle.decode_offsets.proofs.CopyingOffsets.{length_offsets}
use Rattle.decode_planes.specs.Limited.{Limited}
use Rattle.decode_planes.specs.Within.{planes_in, innermost_in}
use Rattle.decode_planes.proofs.Levels.{within_now}
use Rattle.decode_planes.proofs.AllPlanes.{masks_are, leaves_are, count_are, planes_long, innermost_long}
use Rattle.decode_ragged.specs.Nested.{nested_from, RaggedWithin}

-- ---- values below masks

-- a cell with no bytes ends where the one before does
no_bytes : (a : ℕ) (p : List ℕ) (vs : List Value) {t : List ℕ} → ends a (spread [] p vs) ≡ t → ends a ([] ∷ spread [] p vs) ≡ a ∷ t
no_bytes a p vs e = ap₂ (λ (x : ℕ) (t : List ℕ). x ∷ t) (add-zero a) (ap (λ (x : ℕ). ends x (spread [] p vs)) (add-zero a) ∙ e)

-- the ends of the values, spread over a plane
ends_by_lem : (a : ℕ) (p os dat : List ℕ) → RisingFrom a os → last_from a os ≤ length dat → ends a (spread [] p (slices_from a os dat)) ≡ ends_by a p os
ends_by_lem a [] os dat r l = refl
ends_by_lem a (zero ∷ p) os dat r l = no_bytes a p (slices_from a os dat) (ends_by_lem a p os dat r l)
ends_by_lem a (suc (suc m) ∷ p) os dat r l = no_bytes a p (slices_from a os dat) (ends_by_lem a p os dat r l)
ends_by_lem a (suc zero ∷ p) [] dat r l = no_bytes a p [] (ends_by_lem a p [] dat r l)
ends_by_lem a (suc zero ∷ p) (b ∷ os) dat r l =
    let q : b ≤ last_from b os = rising_le b os r.1 in
    let x : a + length (take (b - a) (drop a dat)) ≡ b = omega (arith, r.0, length-take-le (b - a) (drop a dat) (omega (arith, length-drop a dat))) in
    ap₂ (λ (x : ℕ) (t : List ℕ). x ∷ t) x (ap (λ (x : ℕ). ends x (spread [] p (slices_from b os dat))) x ∙ ends_by_lem b p os dat r.1 l)

joined-spread : (p : List ℕ) (vs : List Value) → count_set p ≡ length vs → joined (spread [] p vs) ≡ joined vs
joined-spread [] [] e = refl
joined-spread [] (v ∷ vs) e = absurd (omega arith)
joined-spread (zero ∷ p) vs e = joined-spread p vs e
joined-spread (suc (suc m) ∷ p) vs e = joined-spread p vs e
joined-spread (suc zero ∷ p) [] e = absurd (omega arith)
joined-spread (suc zero ∷ p) (v ∷ vs) e = ap (λ (r : List ℕ). v ++ r) (joined-spread p vs (omega arith))

-- ---- what is copied below masks, by the index i

module _ {x : Masks} {w d : ℕ} {s : List ℕ} {n : ℕ} {i : Index} (r : RaggedWithin x w d s n i) (g : d ≢ 0) where
  abbrev pub content : Content
  content = nested_from (mask_form x) w d s n i

  -- the bytes of the set cells, and their values
  abbrev bytes : List ℕ
  bytes = take i.last (drop i.from s)

  abbrev stored : List Value
  stored = slices_from 0 (ends_in w s i) bytes

  abbrev plane : List ℕ
  plane = innermost_in (mask_form x) s n (d - 1)

  pub nested_masks : content.masks ≡ planes_in (mask_form x) s n (d - 1)
  unfolding nested_from
  nested_masks = masks_are (mask_form x) [] s n d stored g

  pub nested_count : i.cells ≡ count_set plane
  nested_count = r.count ∙ count_are (mask_form x) s n d g

  bytes_long : length bytes ≡ i.last
  bytes_long = length-take-le i.last (drop i.from s) (omega (arith, length-drop i.from s, r.index.data_room))

  last_long : last_from 0 (ends_in w s i) ≡ length bytes
  last_long = sym (bytes_long ∙ r.index.last_is)

  pub nested_values : content.values ≡ take i.last (drop i.from s)
  unfolding nested_from
  nested_values =
      ap joined (leaves_are (mask_form x) [] s n d stored g)
      ∙ joined-spread plane stored (sym nested_count ∙ sym (length-slices_from 0 (ends_in w s i) bytes ∙ length_offsets w i.cells (drop (i.index + w) s)))
      ∙ joined-slices 0 (ends_in w s i) bytes r.index.rising last_long

  pub nested_offsets : content.offsets ≡ 0 ∷ ends_by 0 plane (ends_in w s i)
  unfolding nested_from
  nested_offsets =
      ap offsets_of (leaves_are (mask_form x) [] s n d stored g)
      ∙ ap (λ (t : List ℕ). 0 ∷ t) (ends_by_lem 0 plane (ends_in w s i) bytes r.index.rising (omega (arith, last_long)))

  pub nested_masks_long : length content.masks ≡ d * n
  nested_masks_long = ap length nested_masks ∙ planes_long x s n d r.limits.some r.masks g

  pub nested_values_long : length content.values ≡ i.last
  nested_values_long = ap length nested_values ∙ bytes_long

  pub nested_offsets_long : length content.offsets ≡ n + 1
  unfolding nested_from
  nested_offsets_long =
      let vs : List Value = spread [] plane stored in
      let lp : length vs ≡ n = length-spread [] plane stored ∙ innermost_long x s n d r.limits.some r.masks g in
      ap (λ (v : List Value). length (offsets_of v)) (leaves_are (mask_form x) [] s n d stored g) ∙ omega (arith, length-ends 0 vs, lp)

-- ---- what the copying rests on, by the walk and the check

-- where no cell is set there is no index
abbrev pub nothing : Index
nothing = record { cells = 0; index = 0; from = 0; last = 0 }

module _ {x : Masks} {d : ℕ} {s : List ℕ} {n : ℕ} (l : Limited d n) (w : ℕ) {a k : ℕ} (q : WalkPassed x d s 0 n a k) where
  pub none_within : w ≤ 8 → d ≢ 0 → k ≡ 0 → RaggedWithin x w d s n nothing
  none_within h g e =
      let mask = within_now (mask_form x) d s 0 n q.within g (λ z. absurd (omega (arith, l.some))) in
      record {
        limits = l;
        masks = q.within;
        count = sym e ∙ passed_count l.some q;
        index = record { index_room = omega (arith, zero-mul w, mask.room); data_room = omega arith; first_is = λ h. absurd (omega arith); rising = tt; last_is = refl };
      }

  pub some_within : {p : Place} {i : Index} → IndexChecked w p s a k i → RaggedWithin x w d s n i
  some_within c = record { limits = l; masks = q.within; count = c.cells_are ∙ passed_count l.some q; index = c.within }

-- ---- the reader, by the walk and the check

module _ (mf : MaskForm) (w : ℕ) (p : Place) (s : List ℕ) (d n : ℕ) (some : 1 ≤ n) where
  abbrev form : Form
  form = ragged w p

  abbrev laid_out : Answer (List (Cell d)) → Answer Content
  laid_out a = and_then a (λ cs. gives (layout form d cs))

  reads : {y : Answer (ℕ × ℕ)} → walked mf d s 0 n ≡ y → read_in mf form d n s ≡ laid_out (and_then y (answer_by mf [] (get_values form) d s 0 n))
  unfolding read_in
  reads e =
      ap laid_out (read_walked mf [] (get_values form) d s 0 n some ∙ ap (λ (z : Answer (ℕ × ℕ)). and_then z (answer_by mf [] (get_values form) d s 0 n)) e)

  pub ragged_refused : (e : ℕ) → walked mf d s 0 n ≡ refuses e → read_in mf form d n s ≡ refuses e
  ragged_refused e h = reads h

  -- what the walk found: where the values begin, and of how many cells
  module _ {a k : ℕ} (h : walked mf d s 0 n ≡ gives (a, k)) where
    pub ragged_none_set : k ≡ 0 → read_in mf form d n s ≡ gives (nested_from mf w d s n nothing)
    unfolding nested_from
    ragged_none_set e = reads h ∙ ap (λ (j : ℕ). laid_out (answer_by mf [] (get_values form) d s 0 n (a, j))) e

    -- the cells of the ragged values y
    abbrev given : Answer RaggedContent → Answer Content
    given y = laid_out (and_then (and_then y (λ c. gives (slices c.offsets c.values))) (λ vs. gives (cells_from mf [] d s 0 n vs)))

    module _ (f : 1 ≤ k) where
      values_read : {y : Answer RaggedContent} → get_ragged w p (drop a s) k ≡ y → read_in mf form d n s ≡ given y
      unfolding get_values
      values_read g =
          reads h
          ∙ ap (λ (v : Answer (List Value)). laid_out (and_then v (λ vs. gives (cells_from mf [] d s 0 n vs)))) (innermost_some (get_values form (drop a s)) k f) ∙ ap given g

      pub ragged_wrong : (e : ℕ) → get_ragged w p (drop a s) k ≡ refuses e → read_in mf form d n s ≡ refuses e
      ragged_wrong e g = values_read g

      pub ragged_given : {i : Index} → IndexChecked w p s a k i → read_in mf form d n s ≡ gives (nested_from mf w d s n i)
      unfolding nested_from
      ragged_given {i} c =
          values_read c.gave
          ∙ ap (λ (os : List ℕ). laid_out (gives (cells_from mf [] d s 0 n (slices os (take i.last (drop i.from s)))))) c.offsets_are

-- with no mask
module _ (mf : MaskForm) (w : ℕ) (p : Place) (s : List ℕ) (n : ℕ) where
  pub flat_is : {y : Answer RaggedContent} → get_ragged w p s n ≡ y → read_in mf (ragged w p) 0 n s ≡ and_then y (λ c. gives (unmasked c))
  flat_is g = flat_read w p mf n s ∙ ap (λ (z : Answer RaggedContent). and_then z (λ c. gives (unmasked c))) g
