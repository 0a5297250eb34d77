-- Each refusal of the stored forms exactly when it is due: the readers first, then the calls.
-- Assumes nothing.
use mathlib.Core.Path.{◌≡◌, refl, sym, subst}
use mathlib.Core.Bool.{Bool, true, ◌&&◌, false≢true}
use mathlib.Core.List.{List, [], ◌∷◌, ◌++◌, map}
use Prim.Native.Nat.{ℕ, zero, suc, ◌*◌}
use lib.ListN.{length, take, drop}
use lib.Dec.{leb, eqb}
use borrow.Author.Tests.{le-leb, leb-true, eq-eqb, eqb-true}
use Rattle.array.specs.Answer.{Answer, and_then}
use Rattle.array.specs.Bytes.{unle}
use Rattle.array.specs.Lists.{joined, pieces, All, every}
use Rattle.array.specs.Kind.{Kind, kind_test, Place, Form, fixed, ragged, null_of, Masks, as_bytes, as_bits}
use Rattle.array.specs.Shape.{volume}
use Rattle.array.specs.Offsets.{last}
use Rattle.array.specs.Cells.{Strict, strict_test, blank}
use Rattle.array.specs.Content.{values_in}
use Rattle.array.specs.Buffers.{lengths_of, ragged_lengths_of}
use Rattle.array.specs.Refusals.{Rule, InOrder, success}
use Rattle.array.proofs.Answers.{then_unless, both_tests}
use Rattle.array.proofs.Refusals.{stage, stage_le, stage_eq, stage_given, stage_array, and_then_lem, named}
use Rattle.array.proofs.Rules.{both, left_of_lem, right_of, every_all, all_every, strict_test_lem, strict_ok}
use Rattle.array.proofs.Rules.{kind_test_lem, kind_ok, shape_test_lem, shape_ok, rising_test_lem, rising_ok}
use Rattle.array.proofs.Rules.{size_test_lem, size_ok, enough_test_lem, enough_ok, ragged_enough_test_lem, ragged_enough_ok}
use Rattle.codec.specs.Mask.{get_mask, packed_mask, mask_form, bits_of}
use Rattle.codec.specs.Frame.{count_set, expand, content_of, read_frame}
use Rattle.codec.specs.Ragged.{part_of, left_of, check_ragged, open_ragged, get_ragged}
use Rattle.codec.specs.Values.{get_values}
use Rattle.codec.specs.Interleaved.{interleaved_cells, interleaved_values, InterleavedOk, interleaved_test, IsRagged, ragged_test}
use Rattle.codec.specs.Calls.{values_left, read_in, encode_answer, encoded, decode_answer, decoded, interleaved_answer, interleaved_decoded, encode_interleaved_answer, interleaved_encoded}
use Rattle.codec.specs.Refusals.{data_rules, index_rules, ragged_rules, value_rules, mask_rules, content_rules, frame_rules, cell_rules, older_rules, Refusals}
use Rattle.codec.proofs.Carried.{carried_test_lem, carried_ok, fields_test_lem, fields_ok}

-- ---- stored bytes

data_order : (os s : List ℕ) → InOrder (data_rules os s) (check_ragged os s)
data_order os s = stage_eq 8 _ _ (stage 10 (rising_test_lem os) (rising_ok os) (stage 5 (size_test_lem (last os)) (size_ok (last os)) success))

-- both tests of the index are 8
index_order : (w : ℕ) (p : Place) (l : ℕ) (s : List ℕ) (n : ℕ) → InOrder (index_rules w p l s n) (open_ragged w p l s n)
index_order w p l s n =
    let a : Bool = leb l (length s) in
    let b : Bool = eqb l (w * suc n) in
    subst (InOrder (index_rules w p l s n)) (both_tests a b 8 _)
    (stage 8 (λ i. both (le-leb l (length s) i.0) (eq-eqb l (w * suc n) i.1))
    (λ t. (leb-true l (length s) (left_of_lem a b t), eqb-true l (w * suc n) (right_of a b t)))
    (data_order (map unle (pieces w (suc n) (part_of p l s))) (left_of p l s)))

pub ragged_order : (w : ℕ) (p : Place) (s : List ℕ) (n : ℕ) → InOrder (ragged_rules w p s n) (get_ragged w p s n)
unfolding get_ragged
ragged_order w p s n = stage_le 7 _ _ (index_order w p (unle (part_of p 8 s)) (left_of p 8 s) n)

pub value_order : (f : Form) (s : List ℕ) (n : ℕ) → InOrder (value_rules f s n) (get_values f s n)
unfolding get_values
value_order (fixed k o) s n = stage_eq 8 _ _ success
value_order (ragged w p) s n = named _ (ragged_order w p s n)

content_order : {A : Type 0} (c n : ℕ) (rules : ℕ → List Rule) (f : ℕ → Answer (List A)) → ((m : ℕ) → InOrder (rules m) (f m))
    → InOrder (content_rules c n rules) (content_of c n f)
content_order c zero rules f h = stage_eq 8 _ _ success
content_order c (suc n) rules f h = h (suc n)

-- the mask bytes or the unused bits, and then what goes by the mask
zeros_test : (bs : List ℕ) → All (λ b. b ≡ 0) bs → every (eqb 0) bs ≡ true
zeros_test [] p = refl
zeros_test (b ∷ bs) p = both (eq-eqb 0 b (sym p.0)) (zeros_test bs p.1)

zeros_ok : (bs : List ℕ) → every (eqb 0) bs ≡ true → All (λ b. b ≡ 0) bs
zeros_ok [] e = tt
zeros_ok (b ∷ bs) e = (sym (eqb-true 0 b (left_of_lem (eqb 0 b) (every (eqb 0) bs) e)), zeros_ok bs (right_of (eqb 0 b) (every (eqb 0) bs) e))

mask_order : {B : Type 0} (x : Masks) (mask : List ℕ) (n : ℕ) {rs : List Rule} (f : List ℕ → Answer B) → InOrder rs (f ((mask_form x).said mask n))
    → InOrder (mask_rules x mask n ++ rs) (and_then (get_mask (mask_form x) mask n) f)
mask_order as_bytes mask n {rs} f h =
    subst (InOrder (mask_rules as_bytes mask n ++ rs)) (sym (then_unless (every strict_test mask) 14 mask f))
    (stage 14 (every_all Strict strict_test strict_test_lem mask) (all_every Strict strict_test strict_ok mask) h)
mask_order as_bits mask n {rs} f h =
    let said : List ℕ = packed_mask.said mask n in
    let unused : List ℕ = drop n (bits_of mask) in
    subst (InOrder (mask_rules as_bits mask n ++ rs)) (sym (then_unless (every (eqb 0) unused) 13 said f)) (stage 13 (zeros_test unused) (zeros_ok unused) h)

frame_order : (x : Masks) (f : Form) (d : ℕ) (s : List ℕ) (n : ℕ) → InOrder (frame_rules x f d s n) (read_frame (mask_form x) (null_of f) (get_values f) d s n)
unfolding read_frame
frame_order x f zero s n = value_order f s n
frame_order x f (suc d) s n =
    let m : ℕ = unle (take 8 s) in
    let mask : List ℕ = take m (drop 16 s) in
    let said : List ℕ = (mask_form x).said mask n in
    stage_le 7 _ _ (stage_eq 8 _ _ (stage_eq 8 _ _
    (mask_order x mask n _ (named (expand (blank (null_of f) d) said) (content_order _ (count_set said) _ _ (frame_order x f d (drop m (drop 16 s))))))))

read_order : (x : Masks) (f : Form) (d : ℕ) (s : List ℕ) (n : ℕ) → InOrder (frame_rules x f d s n) (read_in (mask_form x) f d n s)
unfolding read_in
read_order x f d s n = named _ (frame_order x f d s n)

cell_order : (n : ℕ) (s : List ℕ) → InOrder (cell_rules n s) (interleaved_cells n s)
unfolding interleaved_cells
cell_order zero s = success
cell_order (suc n) s = stage_le 11 _ _ (stage_le 11 _ _ (named _ (cell_order n (drop (unle (take 4 s)) (drop 4 s)))))

pub older_order : (n : ℕ) (s : List ℕ) → InOrder (older_rules n s) (interleaved_values n s)
unfolding interleaved_values
older_order n s =
    stage_le 7 _ _ (stage_eq 9 _ _
    (and_then_lem (cell_order n (drop 4 s)) (λ vs e.
    stage_given 5 e (size_test_lem (length (joined vs))) (size_ok (length (joined vs))) success)))

-- the kinds of the older form
pub is_ragged_test : (f : Form) → IsRagged f → ragged_test f ≡ true
is_ragged_test (fixed k o) p = absurd p
is_ragged_test (ragged w p) r = refl

pub is_ragged_ok : (f : Form) → ragged_test f ≡ true → IsRagged f
is_ragged_ok (fixed k o) e = absurd (false≢true e)
is_ragged_ok (ragged w p) e = tt

pub interleaved_test_lem : (k : Kind) → InterleavedOk k → interleaved_test k ≡ true
interleaved_test_lem k p = both (both (kind_test_lem k p.sound) (eq-eqb k.depth 0 p.flat)) (is_ragged_test k.form p.is_ragged)

pub interleaved_ok : (k : Kind) → interleaved_test k ≡ true → InterleavedOk k
interleaved_ok k e =
    let one : Bool = kind_test k && eqb k.depth 0 in
    let sound_flat : one ≡ true = left_of_lem one (ragged_test k.form) e in
    record {
      sound = kind_ok k (left_of_lem (kind_test k) (eqb k.depth 0) sound_flat);
      flat = eqb-true k.depth 0 (right_of (kind_test k) (eqb k.depth 0) sound_flat);
      is_ragged = is_ragged_ok k.form (right_of one (ragged_test k.form) e);
    }

-- ---- the calls

pub refusals : Refusals
unfolding encoded encode_answer decoded decode_answer interleaved_decoded interleaved_answer interleaved_encoded encode_interleaved_answer
refusals = record {
  encode = λ k shape c out. named length
      (stage 1 (kind_test_lem k) (kind_ok k)
      (stage 2 (shape_test_lem shape) (shape_ok shape)
      (stage_array k (volume shape) c
      (stage 20 (carried_test_lem k.form (values_left k (volume shape) c)) (carried_ok k.form (values_left k (volume shape) c))
      (stage_le 6 _ _ success)))));
  decode = λ k shape s out. named lengths_of
      (stage 1 (kind_test_lem k) (kind_ok k)
      (stage 2 (shape_test_lem shape) (shape_ok shape)
      (and_then_lem (read_order k.masks k.form k.depth s (volume shape)) (λ c e.
      stage_given 6 e (enough_test_lem c (lengths_of out)) (enough_ok c (lengths_of out)) success))));
  decode_interleaved = λ n s out. named ragged_lengths_of
      (stage_le 2 _ _
      (and_then_lem (older_order n s) (λ vs e.
      stage_given 6 e (ragged_enough_test_lem _ (ragged_lengths_of out)) (ragged_enough_ok _ (ragged_lengths_of out)) success)));
  encode_interleaved = λ k shape c out. named length
      (stage 1 (interleaved_test_lem k) (interleaved_ok k)
      (stage 2 (shape_test_lem shape) (shape_ok shape)
      (stage_array k (volume shape) c
      (stage 20 (fields_test_lem (values_in k.form (volume shape) c)) (fields_ok (values_in k.form (volume shape) c))
      (stage_le 6 _ _ success)))));
}
