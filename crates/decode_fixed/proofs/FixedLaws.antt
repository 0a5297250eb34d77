-- Fixed values: the masks and the values that the copying leaves are those of the definition, and how the reader answers by the walk.
-- Assumes nothing.
use mathlib.Core.Path.{◌≡◌, refl, sym, ap, ◌∙◌, subst}
use mathlib.Core.Logic.{◌≢◌}
use mathlib.Core.Bool.{Bool}
use mathlib.Core.List.{List, [], map}
use Prim.Native.Nat.{ℕ, zero, suc, ◌+◌, ◌-◌, ◌*◌, ◌≤◌, ◌<◌}
use native.Mathlib.Omega.{arith}
use native.Mathlib.Nat.{zero-mul, sub-zero, le_trans}
use lib.Dec.{eqb}
use lib.ListN.{length, take, drop, replicate, length-drop}
use lib.Seq.{length-take-le}
use borrow.Author.Tests.{eq-eqb, ne_eqb}
use Rattle.array.proofs.Answers.{wrote}
use Rattle.array.specs.Answer.{Answer, gives, refuses, and_then, unless}
use Rattle.array.specs.Limits.{most_size}
use Rattle.array.specs.Lists.{joined, pieces}
use Rattle.array.specs.Kind.{Masks, Order, Form, fixed, ordered}
use Rattle.array.specs.Cells.{Value, Cell}
use Rattle.array.specs.Content.{Content, layout}
use Rattle.array.specs.Buffers.{over, read_outcome}
use Rattle.array.specs.Outcome.{content_array, outcome_array}
use Rattle.std.specs.Prelude.{Err}
use Rattle.array.specs.declared.refusal.Refusal.{Refusal}
use Rattle.codec.specs.Mask.{MaskForm, mask_form}
use Rattle.codec.specs.Frame.{count_set}
use Rattle.codec.specs.Spread.{spread}
use Rattle.codec.specs.Values.{get_values}
use Rattle.codec.specs.Calls.{read_in}
use Rattle.stored_frames.specs.Walk.{walked}
use Rattle.stored_frames.specs.Stored.{cells_from, innermost_by, answer_by, innermost_count}
use Rattle.stored_frames.proofs.Reading.{read_walked}
use Rattle.stored_frames.proofs.Walks.{WalkPassed, walk_passed, passed_count}
use Rattle.decode_words.specs.Values.{values_over, ValuesWithin}
use Rattle.decode_words.proofs.ValueRuns.{cells_left, values_left}
use Rattle.decode_words.proofs.SpreadingValues.{cells_length, values_length_lem}
use Rattle.decode_planes.specs.Limited.{Limited}
use Rattle.decode_planes.specs.Within.{planes_in, innermost_in}
use Rattle.decode_planes.proofs.Levels.{times_first}
use Rattle.decode_planes.proofs.AllPlanes.{masks_are, leaves_are, leaves-flat, count_are, planes_long, innermost_read, innermost_long}
use Rattle.decode_fixed.specs.declared.Found.{Found}
use Rattle.decode_fixed.specs.Reads.{fixed_from, FixedFound, FixedWithin}
use Rattle.decode_planes.proofs.Outcomes.{short_masks, short_values, all_written}
use Rattle.decode_planes.proofs.Small.{bytes_small}

-- with no mask the walk is at the values at once
walk_flat : (mf : MaskForm) (s : List ℕ) (n : ℕ) → walked mf 0 s 0 n ≡ gives (0, n)
unfolding walked
walk_flat mf s n = refl

-- ---- what is copied

module _ (o : Order) {x : Masks} {size d : ℕ} {s : List ℕ} {n : ℕ} {f : Found} (r : FixedWithin x size d s n f) where
  abbrev content : Content
  content = fixed_from (mask_form x) size o d s n f

  abbrev stored : List Value
  stored = map (ordered o) (pieces size f.cells (drop f.at s))

  abbrev plane : List ℕ
  plane = innermost_in (mask_form x) s n (d - 1)

  fixed_masks : d ≢ 0 → content.masks ≡ planes_in (mask_form x) s n (d - 1)
  unfolding fixed_from
  fixed_masks g = masks_are (mask_form x) (replicate size 0) s n d stored g

  fixed_count : d ≢ 0 → f.cells ≡ count_set plane
  fixed_count g = r.count ∙ count_are (mask_form x) s n d g

  -- the values, by the innermost plane
  fixed_values : d ≢ 0 → content.values ≡ values_left size o plane s 0 f.at
  unfolding fixed_from
  fixed_values g =
      ap joined (leaves_are (mask_form x) (replicate size 0) s n d stored g)
      ∙ ap (λ (c : ℕ). joined (spread (replicate size 0) plane (map (ordered o) (pieces size c (drop f.at s))))) (fixed_count g)

  flat-count : d ≡ 0 → f.cells ≡ n
  unfolding innermost_count
  flat-count e = r.count ∙ ap (λ (j : ℕ). innermost_count (mask_form x) j s n) e

  flat_masks : d ≡ 0 → content.masks ≡ []
  unfolding fixed_from
  flat_masks e = ap (λ (j : ℕ). (fixed_from (mask_form x) size o j s n f).masks) e

  flat_values : d ≡ 0 → content.values ≡ cells_left size o s f.cells f.at
  unfolding fixed_from
  flat_values e = ap (λ (j : ℕ). (fixed_from (mask_form x) size o j s n f).values) e ∙ ap joined (leaves-flat (mask_form x) (replicate size 0) s n stored)

  by_depth : {A : Type 0} → (d ≡ 0 → A) → (d ≢ 0 → A) → A
  by_depth g h = go d g h
    where
      go : {A : Type 0} (j : ℕ) → (j ≡ 0 → A) → (j ≢ 0 → A) → A
      go zero g h = g refl
      go (suc j) g h = h (λ e. absurd (omega arith))

  masks_long : length content.masks ≡ d * n
  masks_long =
      by_depth (λ e. ap length (flat_masks e) ∙ sym (ap (λ (j : ℕ). j * n) e ∙ zero-mul n))
      (λ g. ap length (fixed_masks g) ∙ planes_long x s n d r.limits.some r.masks g)

  values_long : length content.values ≡ n * size
  values_long =
      by_depth (λ e. ap length (flat_values e) ∙ cells_length size o s f.cells f.at r.room ∙ ap (λ (j : ℕ). j * size) (flat-count e))
      (λ g. ap length (fixed_values g) ∙ values_length_lem size o plane s f.at (subst (λ (c : ℕ). f.at + c * size ≤ length s) (fixed_count g) r.room)
      ∙ ap (λ (j : ℕ). j * size) (innermost_long x s n d r.limits.some r.masks g))

  no_offsets : content.offsets ≡ []
  unfolding fixed_from
  no_offsets = refl

-- ---- what is left behind: m and v are the outputs, and the offsets stay

module _ (o : Order) {x : Masks} {size d : ℕ} {s : List ℕ} {n : ℕ} {f : Found} (r : FixedWithin x size d s n f) (m v : List ℕ) where
  pub fixed_short_masks : length m < d * n → (off : List ℕ) → outcome_array (Err Refusal.Output) m v off ≡ read_outcome (content_array m v off) (gives (content o r))
  fixed_short_masks h off = short_masks (content o r) m v off (omega (arith, masks_long o r))

  pub fixed_short_values : length v < n * size → (off : List ℕ) → outcome_array (Err Refusal.Output) m v off ≡ read_outcome (content_array m v off) (gives (content o r))
  fixed_short_values h off = short_values (content o r) m v off (omega (arith, values_long o r))

  module _ (h : d * n ≤ length m) (i : n * size ≤ length v) where
    written : {m' v' : List ℕ} → m' ≡ over (content o r).masks m → v' ≡ over (content o r).values v → (off : List ℕ)
        → outcome_array (wrote (d * n) (n * size) 0) m' v' off ≡ read_outcome (content_array m v off) (gives (content o r))
    written {m'} {v'} em ev off =
        let lm : length (content o r).masks ≡ d * n = masks_long o r in
        let lv : length (content o r).values ≡ n * size = values_long o r in
        let lo : length (content o r).offsets ≡ 0 = ap length (no_offsets o r) in
        all_written (content o r) m v off (omega arith) (omega arith) (omega arith) (sym lm) (sym lv) (sym lo) em ev
        (ap (λ (p : List ℕ). over p off) (sym (no_offsets o r)))

    flat_written : d ≡ 0 → {v' : List ℕ} → v' ≡ over (cells_left size o s f.cells f.at) v → (off : List ℕ)
        → outcome_array (wrote (d * n) (n * size) 0) m v' off ≡ read_outcome (content_array m v off) (gives (content o r))
    flat_written e {v'} ev = written (ap (λ (p : List ℕ). over p m) (sym (flat_masks o r e))) (ev ∙ ap (λ (p : List ℕ). over p v) (sym (flat_values o r e)))

    -- m' has the planes, and from the innermost of them the values are spread
    module _ (g : d ≢ 0) {m' : List ℕ} (em : m' ≡ over (planes_in (mask_form x) s n (d - 1)) m) {k : ℕ} (ek : k ≡ n) where
      innermost : take k (drop (d * n - n) m') ≡ plane o r
      innermost = ap (λ (k : ℕ). take k (drop (d * n - n) m')) ek ∙ innermost_read x s n d r.limits.some r.masks g m em

      pub values_within : length m' ≡ length m → ValuesWithin v (take k (drop (d * n - n) m')) s f.at size f.cells
      values_within e = record {
        count = fixed_count o r g ∙ ap count_set (sym innermost);
        room = rw (length-take-le k (drop (d * n - n) m') (omega (arith, times_first d n g, length-drop (d * n - n) m')), ek) i;
        stored = r.room;
      }

      pub deep_written : {v' : List ℕ} → v' ≡ over (values_over size o (take k (drop (d * n - n) m')) (drop f.at s)) v → (off : List ℕ)
          → outcome_array (wrote (d * n) (n * size) 0) m' v' off ≡ read_outcome (content_array m v off) (gives (content o r))
      deep_written {v'} ev =
          written (em ∙ ap (λ (p : List ℕ). over p m) (sym (fixed_masks o r g)))
          (ev ∙ ap (λ (p : List ℕ). over (values_over size o p (drop f.at s)) v) innermost ∙ ap (λ (p : List ℕ). over p v) (sym (fixed_values o r g)))

-- ---- what the copying rests on, by the walk

abbrev pub nowhere : Found
nowhere = record { at = 0; cells = 0 }

module _ {x : Masks} {size d : ℕ} {s : List ℕ} {n : ℕ} {f : Found} (r : FixedFound x size d s n f) where
  pub found_passed : WalkPassed x d s 0 n f.at f.cells
  found_passed = walk_passed x d s 0 n f.at f.cells r.limits.some (omega arith) r.walk

  pub found_small : f.cells * size ≤ 65536 * 64
  found_small = bytes_small f.cells size (le_trans found_passed.few r.limits.few) r.small

  pub some_within : length s - f.at ≡ f.cells * size → FixedWithin x size d s n f
  some_within e = record {
    limits = r.limits;
    small = r.small;
    masks = found_passed.within;
    count = passed_count r.limits.some found_passed;
    room = omega (arith, found_passed.inside);
  }

  -- where no cell is set no value is stored
  pub none_within : f.cells ≡ 0 → FixedWithin x size d s n nowhere
  none_within e = record {
    limits = r.limits;
    small = r.small;
    masks = found_passed.within;
    count = sym e ∙ passed_count r.limits.some found_passed;
    room = omega (arith, zero-mul size);
  }

-- ---- the reader, by the walk

-- values of which none is read where nothing is left
fixed_any : (size : ℕ) (o : Order) (q : List ℕ) (k : ℕ) → (k ≡ 0 → length q ≡ 0) → innermost_by (get_values (fixed size o) q) k ≡ get_values (fixed size o) q k
unfolding get_values
fixed_any size o q zero h = sym (ap (λ (t : Bool). unless t 8 (gives [])) (eq-eqb (length q) (0 * size) (h refl ∙ sym (zero-mul size))))
fixed_any size o q (suc k) h = refl

module _ (mf : MaskForm) (size : ℕ) (o : Order) {d : ℕ} (s : List ℕ) {n : ℕ} (l : Limited d n) where
  abbrev form : Form
  form = fixed size o

  abbrev laid_out : Answer (List (Cell d)) → Answer Content
  laid_out a = and_then a (λ cs. gives (layout form d cs))

  reads : {w : Answer (ℕ × ℕ)} → walked mf d s 0 n ≡ w → read_in mf form d n s ≡ laid_out (and_then w (answer_by mf (replicate size 0) (get_values form) d s 0 n))
  unfolding read_in
  reads e =
      ap laid_out (read_walked mf (replicate size 0) (get_values form) d s 0 n l.some
      ∙ ap (λ (y : Answer (ℕ × ℕ)). and_then y (answer_by mf (replicate size 0) (get_values form) d s 0 n)) e)

  pub fixed_refused : (e : ℕ) → walked mf d s 0 n ≡ refuses e → read_in mf form d n s ≡ refuses e
  fixed_refused e h = reads h

module _ (o : Order) {x : Masks} {size d : ℕ} {s : List ℕ} {n : ℕ} {f : Found} (r : FixedFound x size d s n f) where
  -- the values are read
  abbrev given : Answer (List Value) → Answer Content
  given y = laid_out (mask_form x) size o s r.limits (and_then y (λ vs. gives (cells_from (mask_form x) (replicate size 0) d s 0 n vs)))

  -- by whether the stored bytes end with the values
  by_length : {t : Bool} → eqb (length (drop f.at s)) (f.cells * size) ≡ t
      → read_in (mask_form x) (fixed size o) d n s ≡ given (unless t 8 (gives (map (ordered o) (pieces size f.cells (drop f.at s)))))
  unfolding get_values
  by_length {t} e =
      reads (mask_form x) size o s r.limits r.walk
      ∙ ap given (fixed_any size o (drop f.at s) f.cells (λ z. length-drop f.at s ∙ (found_passed r).none_left z)
      ∙ ap (λ (t : Bool). unless t 8 (gives (map (ordered o) (pieces size f.cells (drop f.at s))))) e)

  pub fixed_length : length s - f.at ≢ f.cells * size → read_in (mask_form x) (fixed size o) d n s ≡ refuses 8
  fixed_length g = by_length (ne_eqb (length (drop f.at s)) (f.cells * size) (λ e. g (sym (length-drop f.at s) ∙ e)))

  pub fixed_given : length s - f.at ≡ f.cells * size → read_in (mask_form x) (fixed size o) d n s ≡ gives (fixed_from (mask_form x) size o d s n f)
  unfolding fixed_from
  fixed_given g = by_length (eq-eqb (length (drop f.at s)) (f.cells * size) (length-drop f.at s ∙ g))

  pub fixed_none : f.cells ≡ 0 → read_in (mask_form x) (fixed size o) d n s ≡ gives (fixed_from (mask_form x) size o d s n nowhere)
  unfolding fixed_from
  fixed_none e =
      reads (mask_form x) size o s r.limits r.walk
      ∙ ap (λ (j : ℕ). laid_out (mask_form x) size o s r.limits (answer_by (mask_form x) (replicate size 0) (get_values (fixed size o)) d s 0 n (f.at, j))) e

-- ---- with no mask the values are all that is stored

module _ (o : Order) (x : Masks) {size : ℕ} (s : List ℕ) {n : ℕ} (l : Limited 0 n) (h : size ≤ most_size) where
  abbrev plain : FixedFound x size 0 s n (record { at = 0; cells = n })
  plain = record { limits = l; small = h; walk = walk_flat (mask_form x) s n }

  pub plain_length : length s ≢ n * size → read_in (mask_form x) (fixed size o) 0 n s ≡ refuses 8
  plain_length g = fixed_length o plain (λ e. g (sym (sub-zero (length s)) ∙ e))

  module _ (e : length s ≡ n * size) (m v off : List ℕ) where
    all : length s - 0 ≡ n * size
    all = sub-zero (length s) ∙ e

    pub plain_short : length v < n * size → outcome_array (Err Refusal.Output) m v off ≡ read_outcome (content_array m v off) (read_in (mask_form x) (fixed size o) 0 n s)
    plain_short k = rw (fixed_given o plain all) (fixed_short_values o (some_within plain all) m v k off)

    pub plain_written : n * size ≤ length v → {v' : List ℕ} → v' ≡ over (cells_left size o s n 0) v
        → outcome_array (wrote 0 (n * size) 0) m v' off ≡ read_outcome (content_array m v off) (read_in (mask_form x) (fixed size o) 0 n s)
    plain_written k {v'} ev =
        rw (fixed_given o plain all)
        (ap (λ (j : ℕ). outcome_array (wrote j (n * size) 0) m v' off) (sym (zero-mul n)) ∙ flat_written o (some_within plain all) m v (omega (arith, zero-mul n)) k refl ev off)
