-- Each rule and its test: the test passes where the rule holds (X-test), and the rule holds where the test passes (X-ok).
-- Assumes nothing.
use mathlib.Core.Path.{◌≡◌, refl}
use mathlib.Core.Logic.{◌⊎◌, inl, inr}
use Prim.Native.Nat.{ℕ, zero, suc, ◌+◌, ◌*◌, ◌%◌, ◌≤◌}
use native.Mathlib.Omega.{arith}
use mathlib.Core.Bool.{Bool, true, false, ◌&&◌, ◌||◌, false≢true}
use mathlib.Core.List.{List, [], ◌∷◌}
use lib.ListN.{length}
use lib.Dec.{leb, eqb}
use borrow.Author.Tests.{le-leb, eq-eqb, leb-true, eqb-true}
use Rattle.array.specs.Answer.{Answer}
use Rattle.array.specs.Limits.{most_bytes, most_cells}
use Rattle.array.specs.Lists.{All, every}
use Rattle.array.specs.Kind.{Kind, KindOk, kind_test, Form, fixed, ragged, FormOk, form_test}
use Rattle.array.specs.Shape.{volume, ShapeOk, shape_test}
use Rattle.array.specs.Subset.{Subset, lengths, subset_of, subsets_of, SubsetOk, subset_test, FullOk, full_test, NumbersOk, numbers_test, ManyOk, many_test}
use Rattle.array.specs.Offsets.{last, Rising, RisingFrom, rising_test, rising_from_test}
use Rattle.array.specs.Cells.{Strict, strict_test}
use Rattle.array.specs.Content.{Content, RaggedContent, ContentOk, content_test, MasksOk, masks_test, StrictBytes, strict_bytes_test, ArrayOk, array_test, unless_kept, ValuesOk, values_test, size_test}
use Rattle.array.specs.declared.answer.Lengths.{Lengths}
use Rattle.array.specs.declared.answer.RaggedLengths.{RaggedLengths}
use Rattle.array.specs.Buffers.{Enough, enough_test, RaggedEnough, ragged_enough_test}
use Rattle.array.proofs.Answers.{pass}

-- ---- tests of several parts

pub both : {a b : Bool} → a ≡ true → b ≡ true → a && b ≡ true
both {a} {b} p q = rw (p, q)

pub every_all : {A : Type 0} (P : A → Type 0) (f : A → Bool) → ((a : A) → P a → f a ≡ true) → (xs : List A) → All P xs → every f xs ≡ true
every_all P f h [] p = refl
every_all P f h (x ∷ xs) p = both (h x p.0) (every_all P f h xs p.1)

pub left_of_lem : (a b : Bool) → a && b ≡ true → a ≡ true
left_of_lem true b e = refl
left_of_lem false b e = e

pub right_of : (a b : Bool) → a && b ≡ true → b ≡ true
right_of true b e = e
right_of false b e = absurd (false≢true e)

pub all_every : {A : Type 0} (P : A → Type 0) (f : A → Bool) → ((a : A) → f a ≡ true → P a) → (xs : List A) → every f xs ≡ true → All P xs
all_every P f h [] e = tt
all_every P f h (x ∷ xs) e = (h x (left_of_lem (f x) (every f xs) e), all_every P f h xs (right_of (f x) (every f xs) e))

-- ---- 1: kinds

pub form_test_lem : (f : Form) → FormOk f → form_test f ≡ true
form_test_lem (fixed k o) p = both (le-leb 1 k p.0) (le-leb k 64 p.1)
form_test_lem (ragged w p) (inl e) = rw e
form_test_lem (ragged w p) (inr e) = rw e

pub kind_test_lem : (k : Kind) → KindOk k → kind_test k ≡ true
kind_test_lem k p = both (le-leb k.depth 4 p.shallow) (form_test_lem k.form p.sound)

pub form_ok : (f : Form) → form_test f ≡ true → FormOk f
form_ok (fixed k o) e = (leb-true 1 k (left_of_lem (leb 1 k) (leb k 64) e), leb-true k 64 (right_of (leb 1 k) (leb k 64) e))
form_ok (ragged w p) e = go (eqb w 4) refl e
  where
    go : (b : Bool) → eqb w 4 ≡ b → b || eqb w 8 ≡ true → (w ≡ 4) ⊎ (w ≡ 8)
    go true q e = inl (eqb-true w 4 q)
    go false q e = inr (eqb-true w 8 e)

pub kind_ok : (k : Kind) → kind_test k ≡ true → KindOk k
kind_ok k e = record {
  shallow = leb-true k.depth 4 (left_of_lem (leb k.depth 4) (form_test k.form) e);
  sound = form_ok k.form (right_of (leb k.depth 4) (form_test k.form) e);
}

-- ---- 2: shapes

pub shape_test_lem : (shape : List ℕ) → ShapeOk shape → shape_test shape ≡ true
shape_test_lem shape p =
    both (both (both (le-leb 1 (length shape) p.some_sides) (le-leb (length shape) 4 p.few_sides))
    (every_all (λ s. 1 ≤ s) (leb 1) (λ s. le-leb 1 s) shape p.sides))
    (le-leb (volume shape) most_cells p.few_cells)

pub shape_ok : (shape : List ℕ) → shape_test shape ≡ true → ShapeOk shape
shape_ok shape e =
    let a : Bool = leb 1 (length shape) in
    let b : Bool = leb (length shape) 4 in
    let c : Bool = every (leb 1) shape in
    let d : Bool = leb (volume shape) most_cells in
    let e3 : a && b && c ≡ true = left_of_lem (a && b && c) d e in
    let e2 : a && b ≡ true = left_of_lem (a && b) c e3 in
    record {
      some_sides = leb-true 1 (length shape) (left_of_lem a b e2);
      few_sides = leb-true (length shape) 4 (right_of a b e2);
      sides = all_every (λ s. 1 ≤ s) (leb 1) (λ s. leb-true 1 s) shape (right_of (a && b) c e3);
      few_cells = leb-true (volume shape) most_cells (right_of (a && b && c) d e);
    }

-- ---- 3: subsets

pub subset_test_lem : (shape : List ℕ) (b : Subset) → SubsetOk shape b → subset_test shape b ≡ true
subset_test_lem [] [] p = refl
subset_test_lem [] (b ∷ bs) p = absurd p
subset_test_lem (s ∷ ss) [] p = absurd p
subset_test_lem (s ∷ ss) (b ∷ bs) p = both (le-leb (b.0 + b.1) s p.0) (subset_test_lem ss bs p.1)

pub subset_ok : (shape : List ℕ) (b : Subset) → subset_test shape b ≡ true → SubsetOk shape b
subset_ok [] [] e = tt
subset_ok [] (b ∷ bs) e = false≢true e
subset_ok (s ∷ ss) [] e = false≢true e
subset_ok (s ∷ ss) (b ∷ bs) e = (leb-true (b.0 + b.1) s (left_of_lem (leb (b.0 + b.1) s) (subset_test ss bs) e), subset_ok ss bs (right_of (leb (b.0 + b.1) s) (subset_test ss bs) e))

pub full_test_lem : (shape : List ℕ) (b : Subset) → FullOk shape b → full_test shape b ≡ true
full_test_lem shape b p = both (subset_test_lem shape b p.fits) (every_all (λ n. 1 ≤ n) (leb 1) (λ n. le-leb 1 n) (lengths b) p.full)

pub full_ok : (shape : List ℕ) (b : Subset) → full_test shape b ≡ true → FullOk shape b
full_ok shape b e = record {
  fits = subset_ok shape b (left_of_lem (subset_test shape b) (every (leb 1) (lengths b)) e);
  full = all_every (λ n. 1 ≤ n) (leb 1) (λ n. leb-true 1 n) (lengths b) (right_of (subset_test shape b) (every (leb 1) (lengths b)) e);
}

pub numbers_test_lem : (shape ns : List ℕ) → NumbersOk shape ns → numbers_test shape ns ≡ true
numbers_test_lem shape ns p = both (eq-eqb (length ns) (2 * length shape) p.counted) (subset_test_lem shape (subset_of (length shape) ns) p.fits)

pub numbers_ok : (shape ns : List ℕ) → numbers_test shape ns ≡ true → NumbersOk shape ns
numbers_ok shape ns e =
    let a : Bool = eqb (length ns) (2 * length shape) in
    let b : Bool = subset_test shape (subset_of (length shape) ns) in
    record { counted = eqb-true (length ns) (2 * length shape) (left_of_lem a b e); fits = subset_ok shape (subset_of (length shape) ns) (right_of a b e) }

pub many_test_lem : (shape ns : List ℕ) → ManyOk shape ns → many_test shape ns ≡ true
many_test_lem shape ns p =
    both (eq-eqb (length ns % (2 * length shape)) 0 p.counted) (every_all (FullOk shape) (full_test shape) (full_test_lem shape) (subsets_of (length shape) ns) p.each)

pub many_ok : (shape ns : List ℕ) → many_test shape ns ≡ true → ManyOk shape ns
many_ok shape ns e =
    let a : Bool = eqb (length ns % (2 * length shape)) 0 in
    let b : Bool = every (full_test shape) (subsets_of (length shape) ns) in
    record {
      counted = eqb-true (length ns % (2 * length shape)) 0 (left_of_lem a b e);
      each =
          all_every (FullOk shape) (full_test shape) (full_ok shape) (subsets_of (length shape) ns) (right_of a b e);
    }

-- ---- 4: content

rising_from_test_lem : (a : ℕ) (os : List ℕ) → RisingFrom a os → rising_from_test a os ≡ true
rising_from_test_lem a [] p = refl
rising_from_test_lem a (b ∷ bs) p = both (le-leb a b p.0) (rising_from_test_lem b bs p.1)

pub rising_test_lem : (os : List ℕ) → Rising os → rising_test os ≡ true
rising_test_lem [] p = refl
rising_test_lem (a ∷ bs) p = both (eq-eqb a 0 p.0) (rising_from_test_lem a bs p.1)

rising_from_ok : (a : ℕ) (os : List ℕ) → rising_from_test a os ≡ true → RisingFrom a os
rising_from_ok a [] e = tt
rising_from_ok a (b ∷ bs) e = (leb-true a b (left_of_lem (leb a b) (rising_from_test b bs) e), rising_from_ok b bs (right_of (leb a b) (rising_from_test b bs) e))

pub rising_ok : (os : List ℕ) → rising_test os ≡ true → Rising os
rising_ok [] e = tt
rising_ok (a ∷ bs) e = (eqb-true a 0 (left_of_lem (eqb a 0) (rising_from_test a bs) e), rising_from_ok a bs (right_of (eqb a 0) (rising_from_test a bs) e))

pub values_test_lem : (f : Form) (n : ℕ) (c : Content) → ValuesOk f n c → values_test f n c ≡ true
values_test_lem (fixed k o) n c p = both (eq-eqb (length c.values) (n * k) p.0) (eq-eqb (length c.offsets) 0 p.1)
values_test_lem (ragged w q) n c p =
    both (both (eq-eqb (length c.offsets) (suc n) p.0) (rising_test_lem c.offsets p.1)) (eq-eqb (last c.offsets) (length c.values) p.2)

pub strict_test_lem : (m : ℕ) → Strict m → strict_test m ≡ true
strict_test_lem zero p = refl
strict_test_lem (suc zero) p = refl
strict_test_lem (suc (suc m)) p = absurd (omega arith)

pub strict_ok : (m : ℕ) → strict_test m ≡ true → Strict m
strict_ok zero e = omega arith
strict_ok (suc zero) e = omega arith
strict_ok (suc (suc m)) e = absurd (false≢true e)

pub masks_test_lem : (c : Content) → MasksOk c → masks_test c ≡ true
masks_test_lem c p = every_all Strict strict_test strict_test_lem c.masks p

pub masks_ok : (c : Content) → masks_test c ≡ true → MasksOk c
masks_ok c e = all_every Strict strict_test strict_ok c.masks e

pub strict_bytes_test_lem : (n : ℕ) (ms : List ℕ) → StrictBytes n ms → strict_bytes_test n ms ≡ true
strict_bytes_test_lem n ms p = both (eq-eqb (length ms) n p.counted) (every_all Strict strict_test strict_test_lem ms p.strict)

pub strict_bytes_ok : (n : ℕ) (ms : List ℕ) → strict_bytes_test n ms ≡ true → StrictBytes n ms
strict_bytes_ok n ms e =
    let a : Bool = eqb (length ms) n in
    let b : Bool = every strict_test ms in
    record { counted = eqb-true (length ms) n (left_of_lem a b e); strict = all_every Strict strict_test strict_ok ms (right_of a b e) }

pub content_test_lem : (k : Kind) (n : ℕ) (c : Content) → ContentOk k n c → content_test k n c ≡ true
content_test_lem k n c p = both (eq-eqb (length c.masks) (k.depth * n) p.masks_fit) (values_test_lem k.form n c p.values_fit)

pub values_ok : (f : Form) (n : ℕ) (c : Content) → values_test f n c ≡ true → ValuesOk f n c
values_ok (fixed k o) n c e =
    let a : Bool = eqb (length c.values) (n * k) in
    let b : Bool = eqb (length c.offsets) 0 in
    (eqb-true (length c.values) (n * k) (left_of_lem a b e), eqb-true (length c.offsets) 0 (right_of a b e))
values_ok (ragged w p) n c e =
    let a : Bool = eqb (length c.offsets) (suc n) in
    let b : Bool = rising_test c.offsets in
    let d : Bool = eqb (last c.offsets) (length c.values) in
    let e2 : a && b ≡ true = left_of_lem (a && b) d e in
    (eqb-true (length c.offsets) (suc n) (left_of_lem a b e2), rising_ok c.offsets (right_of a b e2), eqb-true (last c.offsets) (length c.values) (right_of (a && b) d e))

pub content_ok : (k : Kind) (n : ℕ) (c : Content) → content_test k n c ≡ true → ContentOk k n c
content_ok k n c e =
    let a : Bool = eqb (length c.masks) (k.depth * n) in
    let b : Bool = values_test k.form n c in
    record { masks_fit = eqb-true (length c.masks) (k.depth * n) (left_of_lem a b e); values_fit = values_ok k.form n c (right_of a b e) }

pub array_test_lem : (k : Kind) (n : ℕ) (c : Content) → ArrayOk k n c → array_test k n c ≡ true
array_test_lem k n c p = both (content_test_lem k n c p.fits) (masks_test_lem c p.strict)

pub array_ok : (k : Kind) (n : ℕ) (c : Content) → array_test k n c ≡ true → ArrayOk k n c
array_ok k n c e = record { fits = content_ok k n c (left_of_lem (content_test k n c) (masks_test c) e); strict = masks_ok c (right_of (content_test k n c) (masks_test c) e) }

-- ---- 5: size

pub size_test_lem : (n : ℕ) → n ≤ most_bytes → size_test n ≡ true
size_test_lem n h = le-leb n most_bytes h

pub size_ok : (n : ℕ) → size_test n ≡ true → n ≤ most_bytes
size_ok n e = leb-true n most_bytes e

-- an array that keeps them lets the rest of a call through
pub rest_passes : {A : Type 0} (k : Kind) (n : ℕ) (c : Content) → ArrayOk k n c → length c.values ≤ most_bytes → {a b : Answer A} → a ≡ b → unless_kept k n c a ≡ b
rest_passes k n c p s e = pass 4 (array_test_lem k n c p) (pass 5 (size_test_lem (length c.values) s) e)

-- ---- 6: outputs

pub enough_test_lem : (c : Content) (r : Lengths) → Enough c r → enough_test c r ≡ true
enough_test_lem c r p =
    both (both (le-leb (length c.masks) r.masks p.for_masks) (le-leb (length c.values) r.values p.for_values))
    (le-leb (length c.offsets) r.offsets p.for_offsets)

pub enough_ok : (c : Content) (r : Lengths) → enough_test c r ≡ true → Enough c r
enough_ok c r e =
    let a : Bool = leb (length c.masks) r.masks in
    let b : Bool = leb (length c.values) r.values in
    let d : Bool = leb (length c.offsets) r.offsets in
    let e2 : a && b ≡ true = left_of_lem (a && b) d e in
    record {
      for_masks = leb-true (length c.masks) r.masks (left_of_lem a b e2);
      for_values = leb-true (length c.values) r.values (right_of a b e2);
      for_offsets = leb-true (length c.offsets) r.offsets (right_of (a && b) d e);
    }

pub ragged_enough_test_lem : (c : RaggedContent) (r : RaggedLengths) → RaggedEnough c r → ragged_enough_test c r ≡ true
ragged_enough_test_lem c r p = both (le-leb (length c.values) r.values p.for_values) (le-leb (length c.offsets) r.offsets p.for_offsets)

pub ragged_enough_ok : (c : RaggedContent) (r : RaggedLengths) → ragged_enough_test c r ≡ true → RaggedEnough c r
ragged_enough_ok c r e =
    let a : Bool = leb (length c.values) r.values in
    let b : Bool = leb (length c.offsets) r.offsets in
    record { for_values = leb-true (length c.values) r.values (left_of_lem a b e); for_offsets = leb-true (length c.offsets) r.offsets (right_of a b e) }
