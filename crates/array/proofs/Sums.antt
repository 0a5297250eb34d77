-- Sums over lists of places.
-- Assumes nothing.
use mathlib.Core.Path.{◌≡◌, refl, sym, ap, ap₂, ◌∙◌}
use Prim.Native.Nat.{ℕ, zero, suc, ◌+◌, ◌*◌, ◌<◌, ◌≤◌}
use native.Mathlib.Nat.{zero-mul, suc-mul, le_refl, add-le-add, mul-le-mul_right, one-mul}
use native.Mathlib.Omega.{arith}
use mathlib.Core.Bool.{Bool, true, false}
use mathlib.Core.List.{List, [], ◌∷◌, ◌++◌, map}
use lib.ListN.{length, length-append}
use lib.Dec.{eqb}
use lib.Arith.{lt_of_le-ne}
use borrow.Author.Tests.{eqb-true, eqb-false, ne_eqb}
use Rattle.array.specs.Lists.{All, joined, from, pick, count}
use Rattle.array.specs.Places.{sum}
use Rattle.array.proofs.Lists.{map-map}

abbrev pub sum_of : {A : Type 0} → (A → ℕ) → List A → ℕ
sum_of f xs = sum (map f xs)

pub length-joined-map : {A : Type 0} (g : A → List ℕ) (xs : List A) → length (joined (map g xs)) ≡ sum_of (λ x. length (g x)) xs
length-joined-map g [] = refl
length-joined-map g (x ∷ xs) = length-append (g x) (joined (map g xs)) ∙ ap (λ (n : ℕ). length (g x) + n) (length-joined-map g xs)

pub sum_of_map : {A B : Type 0} (h : A → B) (f : B → ℕ) (xs : List A) → sum_of f (map h xs) ≡ sum_of (λ x. f (h x)) xs
sum_of_map h f xs = ap sum (map-map h f xs)

pub sum-le : {A : Type 0} (f g : A → ℕ) (xs : List A) → All (λ x. f x ≤ g x) xs → sum_of f xs ≤ sum_of g xs
sum-le f g [] p = le_refl 0
sum-le f g (x ∷ xs) p = add-le-add p.0 (sum-le f g xs p.1)

pub count-append : (i : ℕ) (xs ys : List ℕ) → count i (xs ++ ys) ≡ count i xs + count i ys
count-append i [] ys = omega arith
count-append i (x ∷ xs) ys = go (eqb i x) (count-append i xs ys)
  where
    go : (b : Bool) → count i (xs ++ ys) ≡ count i xs + count i ys
        → pick b (suc (count i (xs ++ ys))) (count i (xs ++ ys)) ≡ pick b (suc (count i xs)) (count i xs) + count i ys
    go true e = omega arith
    go false e = e

module _ (f : ℕ → ℕ) where
  -- each place below n is taken as often as it stands in the list
  abbrev weighted : List ℕ → ℕ → ℕ
  weighted js i = count i js * f i

  -- one place more adds its own f, and does so once
  miss : (j : ℕ) (js : List ℕ) (a n : ℕ) → j < a → sum_of (weighted (j ∷ js)) (from a n) ≡ sum_of (weighted js) (from a n)
  miss j js a zero h = refl
  miss j js a (suc n) h =
      ap₂ (λ (c m : ℕ). c * f a + m) (ap (λ (b : Bool). pick b (suc (count a js)) (count a js)) (ne_eqb a j (λ e. omega arith))) (miss j js (suc a) n (omega arith))

  hit : (j : ℕ) (js : List ℕ) (a n : ℕ) → a ≤ j → j < a + n → sum_of (weighted (j ∷ js)) (from a n) ≡ f j + sum_of (weighted js) (from a n)
  hit j js a zero h l = absurd (omega arith)
  hit j js a (suc n) h l = go (eqb a j) refl (λ k. hit j js (suc a) n k (omega arith))
    where
      go : (b : Bool) → eqb a j ≡ b → (suc a ≤ j → sum_of (weighted (j ∷ js)) (from (suc a) n) ≡ f j + sum_of (weighted js) (from (suc a) n))
          → pick b (suc (count a js)) (count a js) * f a + sum_of (weighted (j ∷ js)) (from (suc a) n)
          ≡ f j + (count a js * f a + sum_of (weighted js) (from (suc a) n))
      go true e ih =
          let q : a ≡ j = eqb-true a j e in
          omega (arith, miss j js (suc a) n (omega arith), suc-mul (count a js) (f a), ap f q)
      go false e ih = omega (arith, ih (lt_of_le-ne h (eqb-false a j e)))

  none : (a n : ℕ) → 0 ≡ sum_of (weighted []) (from a n)
  none a zero = refl
  none a (suc n) = omega (arith, none (suc a) n, zero-mul (f a))

  pub sum-count : (n : ℕ) (js : List ℕ) → All (λ j. j < n) js → sum_of f js ≡ sum_of (weighted js) (from 0 n)
  sum-count n [] p = none 0 n
  sum-count n (j ∷ js) p = ap (λ (m : ℕ). f j + m) (sum-count n js p.1) ∙ sym (hit j js 0 n (omega arith) (omega (arith, p.0)))

  at_most : (js : List ℕ) (a n : ℕ) → ((i : ℕ) → i < a + n → count i js ≤ 1) → sum_of (weighted js) (from a n) ≤ sum_of f (from a n)
  at_most js a zero h = le_refl 0
  at_most js a (suc n) h =
      omega (arith, mul-le-mul_right (f a) (h a (omega arith)), one-mul (f a), at_most js (suc a) n (λ i l. h i (omega arith)))

  -- places that stand at most once in the list come to no more than all places
  pub sum_once : (n : ℕ) (js : List ℕ) → All (λ j. j < n) js → ((i : ℕ) → i < n → count i js ≤ 1) → sum_of f js ≤ sum_of f (from 0 n)
  sum_once n js p h = omega (arith, sum-count n js p, at_most js 0 n (λ i l. h i (omega arith)))
