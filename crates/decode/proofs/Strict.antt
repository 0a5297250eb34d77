-- Mask bytes that were read are 00 or 01 (specs/Strict): a mask that passed its check says no other, and what is spread below it is strict too.
-- Assumes nothing.
use mathlib.Core.Path.{◌≡◌, subst}
use mathlib.Core.Bool.{true}
use mathlib.Core.List.{List, [], ◌∷◌}
use Prim.Native.Nat.{ℕ, zero, suc, ◌+◌, ◌<◌}
use native.Mathlib.Nat.{zero-lt-suc}
use native.Mathlib.Omega.{arith}
use lib.ListN.{length, take, drop}
use lib.Dec.{leb, eqb}
use Rattle.array.specs.Answer.{Answer, gives}
use Rattle.array.specs.Bytes.{digits, unle}
use Rattle.array.specs.Lists.{All}
use Rattle.array.specs.Kind.{Form, Masks, as_bytes, as_bits, null_of, kind_test}
use Rattle.array.specs.Shape.{volume, shape_test}
use Rattle.array.specs.Cells.{Value, Cell, Mark, is_null, is_set, is_other, mark_of, Strict, blank}
use Rattle.array.specs.Content.{Content, MasksOk}
use Rattle.array.specs.Buffers.{enough_test}
use Rattle.array.proofs.Answers.{passed, went_on, same_given}
use Rattle.array.proofs.Bytes.{digits_below}
use Rattle.array.proofs.Lists.{All-append, All-map, All-of, All-take}
use Rattle.array.proofs.Rules.{masks_ok}
use Rattle.array.proofs.RestLaws.{StrictCell, strict_blank}
use Rattle.array.proofs.LayoutLaws.{strict_masks}
use Rattle.codec.specs.Mask.{mask_form, get_mask, bits_of}
use Rattle.codec.specs.Frame.{count_set, next_by, left_by, expand, content_of, read_frame}
use Rattle.codec.specs.Values.{get_values}
use Rattle.codec.specs.Calls.{read_in, decode_answer}
use Rattle.decode.specs.Strict.{ReadStrict}

-- ---- a mask that passed its check

bits_strict : (s : List ℕ) → All Strict (bits_of s)
bits_strict [] = tt
bits_strict (b ∷ s) =
    All-append Strict (digits 2 8 b) (bits_of s) (All-map (λ d. d < 2) Strict (λ d h. omega arith) (digits 2 8 b) (digits_below 2 (zero-lt-suc 1) 8 b)) (bits_strict s)

said_strict : (x : Masks) (s : List ℕ) (n : ℕ) → (mask_form x).test s n ≡ true → All Strict ((mask_form x).said s n)
said_strict as_bytes s n e = masks_ok (record { masks = s; values = []; offsets = [] }) e
said_strict as_bits s n e = All-take Strict n (bits_of s) (bits_strict s)

-- ---- what is spread below it

module _ {A : Type 0} (P : A → Type 0) (b : A) (pb : P b) where
  next_keeps : (k : Mark) (xs : List A) → All P xs → P (next_by k b xs)
  next_keeps is_null xs p = pb
  next_keeps is_set [] p = pb
  next_keeps is_set (a ∷ xs) p = p.0
  next_keeps is_other xs p = pb

  left-keeps : (k : Mark) (xs : List A) → All P xs → All P (left_by k xs)
  left-keeps is_null xs p = p
  left-keeps is_set [] p = tt
  left-keeps is_set (a ∷ xs) p = p.1
  left-keeps is_other xs p = p

  expand-keeps : (ms : List ℕ) → All Strict ms → (xs : List A) → All P xs → All (λ c. Strict c.0 × P c.1) (expand b ms xs)
  expand-keeps [] q xs p = tt
  expand-keeps (m ∷ ms) q xs p = ((q.0, next_keeps (mark_of m) xs p), expand-keeps ms q.1 (left_by (mark_of m) xs) (left-keeps (mark_of m) xs p))

-- ---- frames

content_keeps : {A : Type 0} (P : A → Type 0) (c n : ℕ) (f : ℕ → Answer (List A)) → ((m : ℕ) (xs : List A) → f m ≡ gives xs → All P xs)
    → (xs : List A) → content_of c n f ≡ gives xs → All P xs
content_keeps {A} P c zero f h xs e = subst (λ (ys : List A). All P ys) (same_given (passed (eqb c 0) 8 (gives []) e).1) tt
content_keeps P c (suc n) f h xs e = h (suc n) xs e

module _ (x : Masks) (z : Value) (r : List ℕ → ℕ → Answer (List Value)) where
  frame_strict : (d : ℕ) (s : List ℕ) (n : ℕ) (cs : List (Cell d)) → read_frame (mask_form x) z r d s n ≡ gives cs → All (StrictCell d) cs
  unfolding read_frame
  frame_strict zero s n cs e = All-of (StrictCell 0) (λ c. tt) cs
  frame_strict (suc d) s n cs e =
      let m : ℕ = unle (take 8 s) in
      let c : ℕ = unle (take 8 (drop 8 s)) in
      let mask : List ℕ = take m (drop 16 s) in
      let content : ℕ → Answer (List (Cell d)) = read_frame (mask_form x) z r d (drop m (drop 16 s)) in
      let sized = passed (eqb m ((mask_form x).size n)) 8 _ (passed (eqb (length s) (16 + m + c)) 8 _ (passed (leb 16 (length s)) 7 _ e).1).1 in
      let got = went_on (get_mask (mask_form x) mask n) _ sized.1 in
      let ms : List ℕ = got.0 in
      let tested = passed ((mask_form x).test mask n) (mask_form x).refusal (gives ((mask_form x).said mask n)) got.1.0 in
      let read = went_on (content_of c (count_set ms) content) _ got.1.1 in
      let below : All (StrictCell d) read.0 =
      content_keeps (StrictCell d) c (count_set ms) content (λ k xs q. frame_strict d (drop m (drop 16 s)) k xs q) read.0 read.1.0 in
      subst (λ (ys : List (Cell (suc d))). All (StrictCell (suc d)) ys) (same_given read.1.1)
      (expand-keeps (StrictCell d) (blank z d) (strict_blank z d) ms
      (subst (λ (ys : List ℕ). All Strict ys) (same_given tested.1) (said_strict x mask n tested.0)) read.0 below)

-- ---- the call

in_strict : (x : Masks) (f : Form) (d n : ℕ) (s : List ℕ) (c : Content) → read_in (mask_form x) f d n s ≡ gives c → MasksOk c
unfolding read_in
in_strict x f d n s c e =
    let read = went_on (read_frame (mask_form x) (null_of f) (get_values f) d s n) _ e in
    subst MasksOk (same_given read.1.1) (strict_masks d read.0 (frame_strict x (null_of f) (get_values f) d s n read.0 read.1.0))

pub read_strict : ReadStrict
unfolding decode_answer
read_strict k shape s room c e =
    let known = passed (shape_test shape) 2 _ (passed (kind_test k) 1 _ e).1 in
    let read = went_on (read_in (mask_form k.masks) k.form k.depth (volume shape) s) _ known.1 in
    let given = passed (enough_test read.0 room) 6 (gives read.0) read.1.1 in
    subst MasksOk (same_given given.1) (in_strict k.masks k.form k.depth (volume shape) s read.0 read.1.0)
