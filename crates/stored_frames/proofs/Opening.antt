-- A frame that is opened, over the form of its mask: each answer by the fields that were read, and what the count says.
-- Assumes nothing.
use mathlib.Core.Path.{◌≡◌, refl, sym, ap, ◌∙◌}
use mathlib.Core.Bool.{Bool, true, false}
use mathlib.Core.List.{List}
use Prim.Native.Nat.{ℕ, zero, suc, ◌+◌, ◌-◌, ◌≤◌, ◌<◌}
use native.Mathlib.Omega.{arith}
use native.Mathlib.Numerals.{sub-one}
use lib.Dec.{leb, eqb}
use lib.ListN.{length, take, drop, length-drop}
use lib.Seq.{drop-drop}
use borrow.Author.Tests.{le-leb, lt-leb, eq-eqb, ne_eqb, eqb-true}
use Rattle.array.specs.Answer.{Answer, gives, refuses, unless, and_then}
use Rattle.array.specs.Bytes.{unle}
use Rattle.array.specs.Kind.{Masks}
use Rattle.buffer.specs.Field.{field_at}
use Rattle.buffer.proofs.Fields.{field_value, field_refused}
use Rattle.codec.specs.Mask.{MaskForm, mask_form}
use Rattle.codec.specs.Frame.{count_set}
use Rattle.codec.specs.MaskAt.{stored_mask, said_mask}
use Rattle.mask.specs.Marks.{counted_in}
use Rattle.stored_frames.specs.Walk.{opened, entering, walked, walked_frame}
use Rattle.stored_frames.specs.Stored.{content_at}
use Rattle.codec.proofs.Marks.{count-le}
use Rattle.mask.proofs.Said.{length_said}

-- the length of the frame s, by its two fields
abbrev total : List ℕ → ℕ
total s = 16 + unle (take 8 s) + unle (take 8 (drop 8 s))

module _ (mf : MaskForm) (s : List ℕ) (n : ℕ) where
  open_short : length s < 16 → refuses 7 ≡ opened mf s n
  unfolding opened
  open_short h = rw (lt-leb 16 (length s) h)

  module _ (h : 16 ≤ length s) where
    open_total : (length s ≡ total s → ⊥) → refuses 8 ≡ opened mf s n
    unfolding opened
    open_total f = rw (le-leb 16 (length s) h, ne_eqb _ _ f)

    open_mask : (unle (take 8 s) ≡ mf.size n → ⊥) → refuses 8 ≡ opened mf s n
    unfolding opened
    open_mask f = rw (le-leb 16 (length s) h, ne_eqb _ _ f) (go (eqb (length s) (total s)))
      where
        go : (b : Bool) → ◌≡◌ {A = Answer ℕ} (refuses 8) (unless b 8 (refuses 8))
        go true = refl
        go false = refl

    open_count : unle (take 8 s) ≡ mf.size n → length s ≡ total s → counted_in mf (stored_mask mf s 16 n) n ≡ opened mf s n
    unfolding opened
    open_count e f = rw (le-leb 16 (length s) h, eq-eqb _ _ f, eq-eqb _ _ e)

-- ---- the answers, by the fields that were read

module _ (mf : MaskForm) (s : List ℕ) (at n : ℕ) where
  pub short_first : (k : ℕ) → field_at 8 7 s at ≡ refuses k → refuses 7 ≡ opened mf (drop at s) n
  short_first k e = open_short mf (drop at s) n (omega (arith, length-drop at s, (field_refused 8 7 s at k e).0))

  pub short_second : (k : ℕ) → field_at 8 7 s (at + 8) ≡ refuses k → refuses 7 ≡ opened mf (drop at s) n
  short_second k e = open_short mf (drop at s) n (omega (arith, length-drop at s, (field_refused 8 7 s (at + 8) k e).0))

-- the mask length m and the content length c of the frame at `at`
pub record Fields (s : List ℕ) (at m c : ℕ) : Type 0 where
  pub room : at + 16 ≤ length s
  first : m ≡ unle (take 8 (drop at s))
  second : c ≡ unle (take 8 (drop 8 (drop at s)))

pub fields_read : (s : List ℕ) (at m c : ℕ) → at ≤ length s → field_at 8 7 s at ≡ gives m → field_at 8 7 s (at + 8) ≡ gives c → Fields s at m c
fields_read s at m c l em ec = record {
  room = omega (arith, (field_value 8 7 s (at + 8) c ec).0);
  first = (field_value 8 7 s at m em).1;
  second = (field_value 8 7 s (at + 8) c ec).1 ∙ ap (λ (q : List ℕ). unle (take 8 q)) (sym (drop-drop 8 at s));
}

-- z is the length that the mask has to have
module _ {s : List ℕ} {at m c z : ℕ} (f : Fields s at m c) (mf : MaskForm) (n : ℕ) (ez : z ≡ mf.size n) where
  long : 16 ≤ length (drop at s)
  long = omega (arith, length-drop at s, f.room)

  pub by_mask : (m ≡ z → ⊥) → refuses 8 ≡ opened mf (drop at s) n
  by_mask g = open_mask mf (drop at s) n long (λ e. g (f.first ∙ e ∙ sym ez))

  pub by_total : m ≡ z → (length s - (at + 16) ≡ z + c → ⊥) → refuses 8 ≡ opened mf (drop at s) n
  by_total e g = open_total mf (drop at s) n long (λ h. g (omega (arith, length-drop at s, f.first, f.second, f.room)))

  pub by_count : m ≡ z → length s - (at + 16) ≡ z + c → counted_in mf (stored_mask mf s (at + 16) n) n ≡ opened mf (drop at s) n
  by_count e h =
      ap (λ (q : List ℕ). counted_in mf (take (mf.size n) q) n) (sym (drop-drop 16 at s))
      ∙ open_count mf (drop at s) n long (sym f.first ∙ e ∙ ez) (omega (arith, length-drop at s, f.first, f.second, f.room))

-- ---- what the count says

-- the mask lies within the bytes and passes its test, and no more cells are set than the frame has
pub record FrameOpen (x : Masks) (s : List ℕ) (n k : ℕ) : Type 0 where
  pub room : 16 + (mask_form x).size n ≤ length s
  pub passed : (mask_form x).test (stored_mask (mask_form x) s 16 n) n ≡ true
  pub counted : k ≡ count_set (said_mask (mask_form x) s 16 n)
  pub few : k ≤ n

pub frame_open : (x : Masks) (s : List ℕ) (n k : ℕ) → opened (mask_form x) s n ≡ gives k → FrameOpen x s n k
unfolding opened
frame_open x s n k h =
    go (leb 16 (length s)) (eqb (length s) (total s)) (eqb (unle (take 8 s)) (mf.size n)) (mf.test (stored_mask mf s 16 n) n) refl refl refl h
  where
    mf : MaskForm
    mf = mask_form x

    go : (a b c t : Bool) → eqb (length s) (total s) ≡ b → eqb (unle (take 8 s)) ((mask_form x).size n) ≡ c → (mask_form x).test (stored_mask (mask_form x) s 16 n) n ≡ t
        → unless a 7 (unless b 8 (unless c 8 (and_then (unless t (mask_form x).refusal (gives (said_mask (mask_form x) s 16 n))) (λ ms. gives (count_set ms))))) ≡ gives k
        → FrameOpen x s n k
    go false b c t eb ec et q = let z : ◌≡◌ {A = ℕ} 0 1 = cc in absurd (omega arith)
    go true false c t eb ec et q = let z : ◌≡◌ {A = ℕ} 0 1 = cc in absurd (omega arith)
    go true true false t eb ec et q = let z : ◌≡◌ {A = ℕ} 0 1 = cc in absurd (omega arith)
    go true true true false eb ec et q = let z : ◌≡◌ {A = ℕ} 0 1 = cc in absurd (omega arith)
    go true true true true eb ec et q =
        let e1 : length s ≡ total s = eqb-true _ _ eb in
        let e2 : unle (take 8 s) ≡ (mask_form x).size n = eqb-true _ _ ec in
        let e3 : k ≡ count_set (said_mask (mask_form x) s 16 n) = cc in
        let inside : (mask_form x).size n ≤ length (drop 16 s) = omega (arith, length-drop 16 s) in
        record {
          room = omega arith;
          passed = et;
          counted = e3;
          few = omega (arith, count-le (said_mask (mask_form x) s 16 n), length_said x s 16 n inside);
        }

-- ---- the walk's two functions

module _ (mf : MaskForm) (d : ℕ) (s : List ℕ) (at n : ℕ) where
  pub content_end : d ≡ 0 → gives (at, n) ≡ walked mf d s at n
  unfolding walked
  content_end e = go d e
    where
      go : (d : ℕ) → d ≡ 0 → gives (at, n) ≡ walked mf d s at n
      go zero e = refl
      go (suc d) e = absurd (omega arith)

  pub content_frame : (d ≡ 0 → ⊥) → walked_frame mf (d - 1) s at n ≡ walked mf d s at n
  unfolding walked walked_frame
  content_frame f = go d f
    where
      go : (d : ℕ) → (d ≡ 0 → ⊥) → walked_frame mf (d - 1) s at n ≡ walked mf d s at n
      go zero f = absurd (f refl)
      go (suc d) f = rw (sub-one (suc d))

  pub frame_refused : {e : ℕ} → refuses e ≡ opened mf (drop at s) n → refuses e ≡ walked_frame mf d s at n
  unfolding walked_frame
  frame_refused h = rw (sym h)

  -- by how many cells its content has, which lies from a on
  module _ (k : ℕ) (h : opened mf (drop at s) n ≡ gives k) {a : ℕ} (ea : a ≡ content_at mf at n) where
    entered : entering s a (walked mf d s a) k ≡ walked_frame mf d s at n
    unfolding walked_frame
    entered = rw h (ap (λ (j : ℕ). entering s j (walked mf d s j) k) ea)

    pub frame_content : 0 < k → walked mf d s a k ≡ walked_frame mf d s at n
    frame_content f = go k f ∙ entered
      where
        go : (j : ℕ) → 0 < j → walked mf d s a j ≡ entering s a (walked mf d s a) j
        go zero g = absurd (omega arith)
        go (suc j) g = refl

    module _ (ez : k ≡ 0) where
      none : {t : Bool} → eqb (length s - a) 0 ≡ t → unless t 8 (gives (a, 0)) ≡ walked_frame mf d s at n
      none e = ap (λ (b : Bool). unless b 8 (gives (a, 0))) (sym e) ∙ ap (entering s a (walked mf d s a)) (sym ez) ∙ entered

      pub frame_hidden : (length s - a ≡ 0 → ⊥) → refuses 8 ≡ walked_frame mf d s at n
      frame_hidden f = none (ne_eqb (length s - a) 0 f)

      pub frame_none : length s - a ≡ 0 → gives (a, 0) ≡ walked_frame mf d s at n
      frame_none e = none (eq-eqb (length s - a) 0 e)
