-- The calls of today answer as before, but where they refused with 5 (specs/Longer).
-- Assumes nothing.
use mathlib.Core.Path.{◌≡◌, refl, sym, ap, ◌∙◌}
use mathlib.Core.Logic.{inl, inr}
use Prim.Native.Nat.{ℕ, zero, suc, ◌+◌, ◌*◌, ◌^◌, ◌≤◌}
use native.Mathlib.Nat.{le_trans}
use native.Mathlib.Omega.{arith}
use mathlib.Core.Bool.{Bool, true, false}
use mathlib.Core.List.{List, map}
use lib.ListN.{length, take, drop}
use lib.Dec.{leb, eqb, lit≤}
use borrow.Author.Tests.{le-leb, leb-true}
use Rattle.array.specs.Answer.{Answer, gives, refuses, unless, and_then, map_answer}
use Rattle.array.specs.Limits.{most_bytes, most_cells}
use Rattle.array.specs.Lists.{joined, pieces}
use Rattle.array.specs.Bytes.{unle}
use Rattle.array.specs.Kind.{Kind, Place, Form, fixed, ragged, FormOk, null_of, kind_test}
use Rattle.array.specs.Shape.{volume, shape_test}
use Rattle.array.specs.Offsets.{last, rising_test}
use Rattle.array.specs.Cells.{Value, Cell}
use Rattle.array.specs.Content.{Content, RaggedContent, layout, values_in, array_test}
use Rattle.array.specs.declared.answer.Lengths.{Lengths}
use Rattle.array.specs.declared.answer.RaggedLengths.{RaggedLengths}
use Rattle.array.specs.Buffers.{lengths_of, ragged_lengths_of, list_outcome, ragged_outcome, content_outcome}
use Rattle.array.proofs.Answers.{pass}
use Rattle.array.proofs.Rules.{kind_ok, array_ok}
use Rattle.array.proofs.LayoutLaws.{values_total}
use Rattle.codec.specs.Mask.{MaskForm, mask_form, get_mask}
use Rattle.codec.specs.Frame.{count_set, content_of, read_frame}
use Rattle.codec.specs.Ragged.{part_of, left_of, get_ragged}
use Rattle.codec.specs.Values.{get_values}
use Rattle.codec.specs.Carried.{Carried}
use Rattle.codec.specs.Interleaved.{interleaved_cells, interleaved_values, interleaved_test, put_interleaved}
use Rattle.codec.specs.Calls.{values_left, read_in, encode_answer, encoded, decode_answer, decoded, interleaved_answer, interleaved_decoded, encode_interleaved_answer, interleaved_encoded}
use Rattle.codec.specs.Longer.{most_before, get_ragged_at, get_values_at, decode_answer_at, interleaved_values_at, interleaved_answer_at, encode_answer_at, encode_interleaved_answer_at, AsToday, Longer}
use Rattle.codec.proofs.Carried.{Below, below_carried, below_fits, carried_test_lem, fields_test_lem}
use Rattle.codec.proofs.Lengths.{bytes_left}

-- ---- the same but for 5

pub record Same {A : Type 0} (a b : Answer A) : Type 0 where
  pub same : ((a ≡ refuses 5) → ⊥) → b ≡ a

pub same_self : {A : Type 0} {a : Answer A} → Same a a
same_self = record { same = λ n. refl }

-- behind a test that holds
pub same_if : {A : Type 0} (t : Bool) (k : ℕ) {a b : Answer A} → (t ≡ true → Same a b) → Same (unless t k a) (unless t k b)
same_if true k h = h refl
same_if false k h = same_self

pub same_unless : {A : Type 0} (t : Bool) (k : ℕ) {a b : Answer A} → Same a b → Same (unless t k a) (unless t k b)
same_unless t k h = same_if t k (λ e. h)

pub same_then : {A B : Type 0} (a b : Answer A) {f g : A → Answer B} → Same a b → ((x : A) → Same (f x) (g x)) → Same (and_then a f) (and_then b g)
same_then {A} (gives x) b {f} {g} h q =
    record { same = λ n. ap (λ (r : Answer A). and_then r g) (h.same (λ e. let never : ◌≡◌ {A = ℕ} 0 1 = cc in omega arith)) ∙ (q x).same n }
same_then {A} (refuses k) b {f} {g} h q =
    record { same = λ n. ap (λ (r : Answer A). and_then r g) (h.same (λ e. n (ap refuses (let i : k ≡ 5 = cc in i)))) }

-- the limit raised from m to n
pub same_size : {A : Type 0} (m n x : ℕ) {a b : Answer A} → m ≤ n → (x ≤ m → Same a b) → Same (unless (leb x m) 5 a) (unless (leb x n) 5 b)
same_size {A} m n x {a} {b} l h = go (leb x m) refl
  where
    go : (t : Bool) → leb x m ≡ t → Same (unless t 5 a) (unless (leb x n) 5 b)
    go true e = record { same = λ c. pass 5 (le-leb x n (le_trans (leb-true x m e) l)) refl ∙ (h (leb-true x m e)).same c }
    go false e = record { same = λ c. absurd (c refl) }

-- of a whole outcome, whose answer is named by f
pub same_named : {A B : Type 0} (f : A → B) (a b : Answer A) → Same a b → ((map_answer f a ≡ refuses 5) → ⊥) → b ≡ a
same_named f (gives x) b h n = h.same (λ e. let never : ◌≡◌ {A = ℕ} 0 1 = cc in omega arith)
same_named f (refuses k) b h n = h.same (λ e. n (ap refuses (let i : k ≡ 5 = cc in i)))

-- ---- reading

module _ (m n : ℕ) (l : m ≤ n) where
  pub same_ragged : (w : ℕ) (p : Place) (s : List ℕ) (c : ℕ) → Same (get_ragged_at m w p s c) (get_ragged_at n w p s c)
  same_ragged w p s c =
      let i : ℕ = unle (part_of p 8 s) in
      let behind : List ℕ = left_of p 8 s in
      let os : List ℕ = map unle (pieces w (suc c) (part_of p i behind)) in
      let bytes : List ℕ = left_of p i behind in
      let given : Answer RaggedContent = gives (record { values = bytes; offsets = os }) in
      same_unless (leb 8 (length s)) 7 (same_unless (leb i (length behind)) 8 (same_unless (eqb i (w * suc c)) 8
      (same_unless (eqb (last os) (length bytes)) 8 (same_unless (rising_test os) 10 (same_size m n (last os) {a = given} {b = given} l (λ h. same_self))))))

  same_values : (f : Form) (s : List ℕ) (c : ℕ) → Same (get_values_at m f s c) (get_values_at n f s c)
  same_values (fixed k o) s c = same_self
  same_values (ragged w p) s c = same_then (get_ragged_at m w p s c) (get_ragged_at n w p s c) (same_ragged w p s c) (λ x. same_self)

  same_content : {A : Type 0} (c k : ℕ) (f g : ℕ → Answer (List A)) → ((j : ℕ) → Same (f j) (g j)) → Same (content_of c k f) (content_of c k g)
  same_content c zero f g h = same_self
  same_content c (suc k) f g h = h (suc k)

  same_frame : (x : MaskForm) (f : Form) (d : ℕ) (s : List ℕ) (c : ℕ) → Same (read_frame x (null_of f) (get_values_at m f) d s c) (read_frame x (null_of f) (get_values_at n f) d s c)
  unfolding read_frame
  same_frame x f zero s c = same_values f s c
  same_frame x f (suc d) s c =
      let a : ℕ = unle (take 8 s) in
      let b : ℕ = unle (take 8 (drop 8 s)) in
      let mask : List ℕ = take a (drop 16 s) in
      let below : ℕ → ℕ → Answer (List (Cell d)) = λ most. read_frame x (null_of f) (get_values_at most f) d (drop a (drop 16 s)) in
      same_unless (leb 16 (length s)) 7 (same_unless (eqb (length s) (16 + a + b)) 8 (same_unless (eqb a (x.size c)) 8
      (same_then (get_mask x mask c) (get_mask x mask c) same_self (λ ms.
      same_then (content_of b (count_set ms) (below m)) (content_of b (count_set ms) (below n))
      (same_content b (count_set ms) (below m) (below n) (same_frame x f d (drop a (drop 16 s)))) (λ xs. same_self)))))

  same_decode : (k : Kind) (shape s : List ℕ) (room : Lengths) → Same (decode_answer_at m k shape s room) (decode_answer_at n k shape s room)
  same_decode k shape s room =
      let reads : ℕ → Answer (List (Cell k.depth)) = λ most. read_frame (mask_form k.masks) (null_of k.form) (get_values_at most k.form) k.depth s (volume shape) in
      let lay : List (Cell k.depth) → Answer Content = λ cs. gives (layout k.form k.depth cs) in
      same_unless (kind_test k) 1 (same_unless (shape_test shape) 2
      (same_then (and_then (reads m) lay) (and_then (reads n) lay) (same_then (reads m) (reads n) (same_frame (mask_form k.masks) k.form k.depth s (volume shape)) (λ cs. same_self)) (λ c. same_self)))

  same_older_values : (c : ℕ) (s : List ℕ) → Same (interleaved_values_at m c s) (interleaved_values_at n c s)
  same_older_values c s =
      let cells : Answer (List Value) = interleaved_cells c (drop 4 s) in
      same_unless (leb (4 * suc c) (length s)) 7 (same_unless (eqb (unle (take 4 s)) c) 9
      (same_then cells cells same_self (λ vs. same_size m n (length (joined vs)) {a = gives vs} {b = gives vs} l (λ h. same_self))))

  same_interleaved : (c : ℕ) (s : List ℕ) (room : RaggedLengths) → Same (interleaved_answer_at m c s room) (interleaved_answer_at n c s room)
  same_interleaved c s room =
      same_unless (leb c most_cells) 2 (same_then (interleaved_values_at m c s) (interleaved_values_at n c s) (same_older_values c s) (λ vs. same_self))

-- the limit of today
pub as_today : AsToday
unfolding unle get_ragged get_values read_in decode_answer decoded interleaved_values interleaved_answer interleaved_decoded
as_today = record { decode = λ k shape s out. refl; decode_interleaved = λ n s out. refl }

-- ---- writing

-- so few bytes are carried by each width
few_below : (f : Form) → FormOk f → (n : ℕ) → n ≤ most_before → Below f n
few_below (fixed k o) ok n h = tt
few_below (ragged w p) (inl e) n h = rw e (omega (arith, h))
few_below (ragged w p) (inr e) n h = rw e (omega (arith, h))

pub more : most_before ≤ most_bytes
unfolding most_bytes
more = lit≤ tt

same_encode : (k : Kind) (shape : List ℕ) (c : Content) (room : ℕ) → Same (encode_answer_at most_before k shape c room) (encode_answer k shape c room)
unfolding encode_answer
same_encode k shape c room =
    let n : ℕ = volume shape in
    same_if (kind_test k) 1 (λ ek. same_unless (shape_test shape) 2 (same_if (array_test k n c) 4 (λ ea. same_size most_before most_bytes (length c.values) more (λ h.
    let carried : Carried k.form (values_left k n c) =
    below_carried k.form (values_left k n c) (length c.values) (few_below k.form (kind_ok k ek).sound (length c.values) h) (bytes_left k n c (array_ok k n c ea).fits) in
    record { same = λ z. pass 20 (carried_test_lem k.form (values_left k n c) carried) refl }))))

same_older : (k : Kind) (shape : List ℕ) (c : Content) (room : ℕ) → Same (encode_interleaved_answer_at most_before k shape c room) (encode_interleaved_answer k shape c room)
unfolding encode_interleaved_answer put_interleaved
same_older k shape c room =
    let n : ℕ = volume shape in
    same_unless (interleaved_test k) 1 (same_unless (shape_test shape) 2 (same_if (array_test k n c) 4 (λ ea. same_size most_before most_bytes (length c.values) more (λ h.
    let total : length (joined (values_in k.form n c)) ≤ length c.values = values_total k.form n c (array_ok k n c ea).fits.values_fit in
    record { same = λ z. pass 20 (fields_test_lem (values_in k.form n c) (below_fits (256 ^ 4) (values_in k.form n c) (omega (arith, total, h)))) refl }))))

pub longer : Longer
unfolding encoded interleaved_encoded
longer = record {
  decode = λ k shape s out n.
      sym (as_today.decode k shape s out)
      ∙ ap (λ (a : Answer Content). content_outcome a out)
      (same_named lengths_of (decode_answer_at most_before k shape s (lengths_of out)) (decode_answer_at most_bytes k shape s (lengths_of out)) (same_decode most_before most_bytes more k shape s (lengths_of out)) n);
  decode_interleaved = λ c s out n.
      sym (as_today.decode_interleaved c s out)
      ∙ ap (λ (a : Answer RaggedContent). ragged_outcome a out)
      (same_named ragged_lengths_of (interleaved_answer_at most_before c s (ragged_lengths_of out)) (interleaved_answer_at most_bytes c s (ragged_lengths_of out)) (same_interleaved most_before most_bytes more c s (ragged_lengths_of out)) n);
  encode = λ k shape c out n.
      ap (λ (a : Answer (List ℕ)). list_outcome a out)
      (same_named length (encode_answer_at most_before k shape c (length out)) (encode_answer k shape c (length out)) (same_encode k shape c (length out)) n);
  encode_interleaved = λ k shape c out n.
      ap (λ (a : Answer (List ℕ)). list_outcome a out)
      (same_named length (encode_interleaved_answer_at most_before k shape c (length out)) (encode_interleaved_answer k shape c (length out)) (same_older k shape c (length out)) n);
}
