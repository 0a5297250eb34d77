-- A content with so many levels left: what it is where no cell is left, at the innermost, and as a frame; and how long it is.
-- Assumes nothing.
use mathlib.Core.Path.{◌≡◌, refl, sym, ap, ap₂, ◌∙◌}
use mathlib.Core.Logic.{◌≢◌}
use Prim.Native.Nat.{ℕ, zero, suc, ◌+◌, ◌-◌, ◌*◌, ◌≤◌}
use native.Mathlib.Nat.{sub-zero, suc-mul, mul-le-mul, mul-le-mul_right, le_trans}
use native.Mathlib.Numerals.{add-one, sub-one}
use native.Mathlib.Omega.{arith}
use mathlib.Core.List.{List, [], ◌∷◌, map}
use lib.ListN.{length}
use Rattle.array.specs.Limits.{most_bytes, most_cells}
use Rattle.array.specs.Kind.{Kind, Form, fixed, ragged}
use Rattle.array.specs.Content.{Content, ValuesOk}
use Rattle.array.specs.Places.{offset_at, value_in, bytes_at, masks_at, shown_at}
use Rattle.codec.specs.Mask.{mask_form}
use Rattle.codec.specs.Frame.{wrap, unless_none}
use Rattle.codec.specs.Values.{put_values}
use Rattle.codec.proofs.Frames.{length-wrap}
use Rattle.codec.proofs.Masks.{mask_laws}
use Rattle.live_cells.specs.Live.{live_at}
use Rattle.encode_values.specs.Stored.{level_of, values_from, stored_from, mask_from, frame_from, or_nothing, values_length_at, length_from}
use Rattle.encode_values.specs.Ready.{MeasuresOk, Measured}
use Rattle.live_cells.proofs.Runs.{live-le}
use Rattle.live_cells.proofs.LiveMarks.{count_all}
use Rattle.encode_cells.proofs.Packing.{fixed_long}
use Rattle.encode_masks.proofs.Blocks.{live_mask_long}
use Rattle.encode_data.proofs.Summing.{bytes_le}
use Rattle.encode_ragged.proofs.Parts.{ragged_long}

-- ---- the cases of a content

unless_none_lem : {A : Type 0} (f : List A → List ℕ) (is : List A) → length is ≡ 0 → unless_none f is ≡ []
unless_none_lem f [] e = refl
unless_none_lem f (i ∷ is) e = absurd (omega arith)

unless_some : {A : Type 0} (f : List A → List ℕ) (is : List A) → length is ≢ 0 → unless_none f is ≡ f is
unless_some f [] e = absurd (e refl)
unless_some f (i ∷ is) e = refl

-- with no level left, all levels are above
innermost : (n : ℕ) (masks : List ℕ) (d : ℕ) → length (live_at n masks d) ≡ length (live_at n masks (d - 0))
innermost n masks d = ap (λ (l : ℕ). length (live_at n masks l)) (sym (sub-zero d))

module _ (k : Kind) (n : ℕ) (c : Content) where
  pub stored_none : (left : ℕ) → length (live_at n c.masks (level_of k left)) ≡ 0 → stored_from k n c left ≡ []
  unfolding stored_from
  stored_none zero e = unless_none_lem (λ is. put_values k.form (map (value_in k.form c) is)) (live_at n c.masks k.depth) (innermost n c.masks k.depth ∙ e)
  stored_none (suc left) e =
      unless_none_lem (λ is. wrap ((mask_form k.masks).put (masks_at n c.masks (level_of k (suc left)) is)) (stored_from k n c left)) (live_at n c.masks (level_of k (suc left))) e

  pub stored_values_lem : (left : ℕ) → left ≡ 0 → length (live_at n c.masks (level_of k left)) ≢ 0 → stored_from k n c left ≡ values_from k n c
  unfolding stored_from
  stored_values_lem zero z e =
      unless_some (λ is. put_values k.form (map (value_in k.form c) is)) (live_at n c.masks k.depth) (λ q. e (sym (innermost n c.masks k.depth) ∙ q))
  stored_values_lem (suc left) z e = absurd (omega arith)

  pub stored_frame : (left : ℕ) → left ≢ 0 → length (live_at n c.masks (level_of k left)) ≢ 0 → stored_from k n c left ≡ frame_from k n c left
  unfolding stored_from
  stored_frame zero z e = absurd (z refl)
  stored_frame (suc left) z e =
      unless_some (λ is. wrap ((mask_form k.masks).put (masks_at n c.masks (level_of k (suc left)) is)) (stored_from k n c left)) (live_at n c.masks (level_of k (suc left))) e
      ∙ ap (λ (d : ℕ). wrap (mask_from k n c (suc left)) (stored_from k n c d)) (sym (sub-one (suc left)))

-- ---- the written length

pub values_long : (f : Form) (n : ℕ) (c : Content) (l : ℕ) → ValuesOk f n c
    → length (put_values f (map (value_in f c) (live_at n c.masks l))) ≡ values_length_at f c.offsets (live_at n c.masks l)
values_long (fixed k o) n c l p = fixed_long o k c.values (shown_at n c.masks l) n (omega (arith, p.0))
values_long (ragged w q) n c l p =
    ragged_long w q c.masks l {os = c.offsets} (record { counted = p.0; rising = p.1 }) c.values p.2
    ∙ ap (λ (m : ℕ). 8 + w * m + bytes_at (offset_at c.offsets) (live_at n c.masks l)) (add-one (length (live_at n c.masks l)))

or_nothing_lem : {A : Type 0} (f : List A → List ℕ) (is : List A) {x : ℕ} → length (f is) ≡ x → length (unless_none f is) ≡ or_nothing (length is) x
or_nothing_lem f [] {x = x} e = refl
or_nothing_lem f (i ∷ is) {x = x} e = e

pub stored_long : (k : Kind) (n : ℕ) (c : Content) → ValuesOk k.form n c → (left : ℕ) → length (stored_from k n c left) ≡ length_from k n c.masks c.offsets left
unfolding stored_from length_from
stored_long k n c p zero =
    let live : List ℕ = live_at n c.masks k.depth in
    or_nothing_lem (λ is. put_values k.form (map (value_in k.form c) is)) live (values_long k.form n c k.depth p)
stored_long k n c p (suc left) =
    let l : ℕ = level_of k (suc left) in
    let live : List ℕ = live_at n c.masks l in
    or_nothing_lem (λ is. wrap ((mask_form k.masks).put (masks_at n c.masks l is)) (stored_from k n c left)) live
    (length-wrap (mask_from k n c (suc left)) (stored_from k n c left)
    ∙ ap₂ (λ (a b : ℕ). 16 + a + b) (live_mask_long k.masks n c.masks l) (stored_long k n c p left))

-- ---- the cases of the length

none_zero : (k x : ℕ) → k ≡ 0 → 0 ≡ or_nothing k x
none_zero zero x e = refl
none_zero (suc k) x e = absurd (omega arith)

some_all : (k x : ℕ) → k ≢ 0 → x ≡ or_nothing k x
some_all zero x e = absurd (e refl)
some_all (suc k) x e = refl

module _ (k : Kind) (n : ℕ) (masks os : List ℕ) where
  pub length_none : (left : ℕ) → length (live_at n masks (level_of k left)) ≡ 0 → 0 ≡ length_from k n masks os left
  unfolding length_from
  length_none zero e = none_zero (length (live_at n masks k.depth)) (values_length_at k.form os (live_at n masks k.depth)) (innermost n masks k.depth ∙ e)
  length_none (suc left) e =
      let count : ℕ = length (live_at n masks (level_of k (suc left))) in
      none_zero count (16 + (mask_form k.masks).size count + length_from k n masks os left) e

  pub length_values : (left : ℕ) → left ≡ 0 → length (live_at n masks (level_of k left)) ≢ 0 → values_length_at k.form os (live_at n masks k.depth) ≡ length_from k n masks os left
  unfolding length_from
  length_values zero z e =
      some_all (length (live_at n masks k.depth)) (values_length_at k.form os (live_at n masks k.depth)) (λ q. e (sym (innermost n masks k.depth) ∙ q))
  length_values (suc left) z e = absurd (omega arith)

  pub length-frame : (left : ℕ) → left ≢ 0 → length (live_at n masks (level_of k left)) ≢ 0
      → 16 + (mask_form k.masks).size (length (live_at n masks (level_of k left))) + length_from k n masks os (left - 1) ≡ length_from k n masks os left
  unfolding length_from
  length-frame zero z e = absurd (z refl)
  length-frame (suc left) z e =
      let count : ℕ = length (live_at n masks (level_of k (suc left))) in
      ap (λ (d : ℕ). 16 + (mask_form k.masks).size count + length_from k n masks os d) (sub-one (suc left))
      ∙ some_all count (16 + (mask_form k.masks).size count + length_from k n masks os left) e

-- ---- at depth 0 every cell is there

module _ (k : Kind) (z : k.depth ≡ 0) {n : ℕ} (h : 1 ≤ n) where
  all_there : (masks : List ℕ) → length (live_at n masks (level_of k k.depth)) ≢ 0
  all_there masks e = omega (arith, count_all n masks {l = level_of k k.depth} (omega arith))

  pub flat-length : (masks os : List ℕ) → values_length_at k.form os (live_at n masks k.depth) ≡ length_from k n masks os k.depth
  flat-length masks os = length_values k n masks os k.depth z (all_there masks)

  pub flat_stored : (c : Content) → stored_from k n c k.depth ≡ values_from k n c
  flat_stored c = stored_values_lem k n c k.depth z (all_there c.masks)

-- ---- within the limits it is small

or_le : (k x m : ℕ) → x ≤ m → or_nothing k x ≤ m
or_le zero x m h = omega arith
or_le (suc k) x m h = h

-- more than a level can take under any limit of ours, and so little that five of them fit a number of 64 bits: 2 to the 60
abbrev pub level_room : ℕ
level_room = 1152921504606846976

-- a width is at most 8
abbrev pub NarrowOk : Form → Type 0
NarrowOk (fixed k o) = Unit {0}
NarrowOk (ragged w p) = w ≤ 8

pub values_small : (f : Form) (n : ℕ) (masks os : List ℕ) (l : ℕ) → NarrowOk f → n ≤ most_cells → MeasuresOk f n os → values_length_at f os (live_at n masks l) ≤ level_room
unfolding most_cells most_bytes
values_small (fixed k o) n masks os l w h p = le_trans (mul-le-mul {n₁ = length (live_at n masks l)} {n₂ = 65536} (omega (arith, live-le n masks l)) p) (omega arith)
values_small (ragged w q) n masks os l nw h p =
    let m : ℕ = length (live_at n masks l) in
    let a : w * suc m ≤ 8 * suc m = mul-le-mul_right (suc m) nw in
    omega (arith, live-le n masks l, bytes_le {os = os} (record { counted = p.0; rising = p.1 }) (shown_at n masks l), p.2)

pub length_small : {k : Kind} {n : ℕ} {masks os : List ℕ} → NarrowOk k.form → Measured k n masks os → (left : ℕ) → length_from k n masks os left ≤ suc left * level_room
unfolding length_from most_cells
length_small {k} {n} {masks} {os} w m zero =
    let live : List ℕ = live_at n masks k.depth in
    or_le (length live) (values_length_at k.form os live) (1 * level_room) (omega (arith, values_small k.form n masks os k.depth w m.few m.sizes))
length_small {k} {n} {masks} {os} w m (suc left) =
    let l : ℕ = level_of k (suc left) in
    let count : ℕ = length (live_at n masks l) in
    or_le count (16 + (mask_form k.masks).size count + length_from k n masks os left) (suc (suc left) * level_room)
    (omega (arith, length_small w m left, live-le n masks l, (mask_laws k.masks).size_le count, m.few, suc-mul (suc left) level_room))
