-- Cutting and merging lists of any element type.
-- Assumes nothing.
use mathlib.Core.Path.{◌≡◌, refl, sym, ap, ◌∙◌}
use Prim.Native.Nat.{ℕ, zero, suc, ◌+◌, ◌<◌, ◌≤◌}
use native.Mathlib.Nat.{not-suc-le-zero, zero-add}
use native.Mathlib.Omega.{arith}
use mathlib.Core.Bool.{Bool, true, false}
use mathlib.Core.List.{List, [], ◌∷◌, map}
use lib.ListN.{length, get_or, get_or-map}
use lib.Dec.{eqb}
use lib.Arith.{lt_of_le-ne}
use borrow.Author.Tests.{eq-eqb, eqb-true, eqb-false}
use Rattle.array.specs.Lists.{from, pick, All, every, count}
use Rattle.array.proofs.Lists.{map-map, map_cong, map-from, in_place_lem, at_from, All-at}
use Rattle.array.proofs.Rules.{both, left_of_lem, right_of}
use Rattle.chunks.specs.Gather.{gather, lookup, put_back, Once, once_test}

module _ {A : Type 0} where
  -- every element in its place is the list
  pub gather_all : (z : A) (xs : List A) → gather z xs (from 0 (length xs)) ≡ xs
  gather_all z xs = in_place_lem z xs

  -- ---- merging what was gathered

  pub lookup-map : (z : A) (f : ℕ → A) (i : ℕ) (js : List ℕ) → 0 < count i js → lookup z i js (map f js) ≡ f i
  lookup-map z f i [] h = absurd (not-suc-le-zero h)
  lookup-map z f i (j ∷ js) h = go (eqb i j) refl (lookup-map z f i js) h
    where
      go : (b : Bool) → eqb i j ≡ b → (0 < count i js → lookup z i js (map f js) ≡ f i)
          → 0 < pick b (suc (count i js)) (count i js) → pick b (f j) (lookup z i js (map f js)) ≡ f i
      go true e ih h = ap f (sym (eqb-true i j e))
      go false e ih h = ih h

  pub put_back-gather : (z : A) (xs : List A) (js : List ℕ) → Once (length xs) js → put_back z (length xs) js (gather z xs js) ≡ xs
  put_back-gather z xs js o =
      map-from (λ i. lookup z i js (gather z xs js)) (λ i. get_or xs i z) 0 (length xs)
      (λ i h. lookup-map z (λ j. get_or xs j z) i js (omega (arith, o i (omega arith))))
      ∙ gather_all z xs

-- ---- the element at a place that stands once in the list

count_some : (js : List ℕ) (i : ℕ) → i < length js → 0 < count (get_or js i 0) js
count_some [] i h = absurd (omega arith)
count_some (j ∷ js) zero h = rw (eq-eqb j j refl) (omega arith)
count_some (j ∷ js) (suc i) h = go (eqb (get_or js i 0) j) (count_some js i (omega arith))
  where
    go : (b : Bool) → 0 < count (get_or js i 0) js → 0 < pick b (suc (count (get_or js i 0) js)) (count (get_or js i 0) js)
    go true p = omega arith
    go false p = p

pub lookup_at : {A : Type 0} (z : A) (js : List ℕ) (xs : List A) (i : ℕ) → length js ≡ length xs → i < length js → count (get_or js i 0) js ≡ 1 → lookup z (get_or js i 0) js xs ≡ get_or xs i z
lookup_at z [] xs i e h o = absurd (omega arith)
lookup_at z (j ∷ js) [] i e h o = absurd (omega arith)
lookup_at z (j ∷ js) (x ∷ xs) zero e h o = rw (eq-eqb j j refl)
lookup_at {A} z (j ∷ js) (x ∷ xs) (suc i) e h o = go (eqb (get_or js i 0) j) (lookup_at z js xs i (omega arith) (omega arith)) o
  where
    go : (b : Bool) → (count (get_or js i 0) js ≡ 1 → lookup z (get_or js i 0) js xs ≡ get_or xs i z) → pick b (suc (count (get_or js i 0) js)) (count (get_or js i 0) js) ≡ 1
        → pick b x (lookup z (get_or js i 0) js xs) ≡ get_or xs i z
    go true ih o = absurd (omega (arith, count_some js i (omega arith)))
    go false ih o = ih o

-- and of what was put back
module _ (n : ℕ) (js : List ℕ) (a : All (λ j. j < n) js) (once : Once n js) where
  pub put_back_at : {A : Type 0} (z : A) (xs : List A) (i : ℕ) → length js ≡ length xs → i < length js → get_or (put_back z n js xs) (get_or js i 0) z ≡ get_or xs i z
  put_back_at z xs i e h =
      let l : get_or js i 0 < n = All-at (λ j. j < n) 0 js a i h in
      at_from z (λ k. lookup z k js xs) n 0 (get_or js i 0) l ∙ ap (λ k. lookup z k js xs) (zero-add (get_or js i 0)) ∙ lookup_at z js xs i e h (once (get_or js i 0) l)

-- cutting commutes with what is done to each element
pub gather-map : {A B : Type 0} (f : A → B) (z : A) (xs : List A) (js : List ℕ) → gather (f z) (map f xs) js ≡ map f (gather z xs js)
gather-map f z xs js = map_cong (λ i. get_or (map f xs) i (f z)) (λ i. f (get_or xs i z)) (λ i. get_or-map f xs i z) js ∙ sym (map-map (λ i. get_or xs i z) f js)

-- ---- each place once, and the test of it

once_from : (js : List ℕ) (a n : ℕ) → ((i : ℕ) → i < a + n → count i js ≡ 1) → every (λ i. eqb (count i js) 1) (from a n) ≡ true
once_from js a zero o = refl
once_from js a (suc n) o = both (eq-eqb (count a js) 1 (o a (omega arith))) (once_from js (suc a) n (λ i h. o i (omega arith)))

pub once_test_lem : (n : ℕ) (js : List ℕ) → Once n js → once_test n js ≡ true
once_test_lem n js o = once_from js 0 n (λ i h. o i (omega arith))

once_from_ok : (js : List ℕ) (n a : ℕ) → every (λ i. eqb (count i js) 1) (from a n) ≡ true → (i : ℕ) → a ≤ i → i < a + n → count i js ≡ 1
once_from_ok js zero a e i h l = absurd (omega arith)
once_from_ok js (suc n) a e i h l = go (λ k. once_from_ok js n (suc a) (right_of (eqb (count a js) 1) (every (λ j. eqb (count j js) 1) (from (suc a) n)) e) i k (omega arith)) (eqb i a) refl
  where
    go : (suc a ≤ i → count i js ≡ 1) → (b : Bool) → eqb i a ≡ b → count i js ≡ 1
    go ih true q = ap (λ (k : ℕ). count k js) (eqb-true i a q) ∙ eqb-true (count a js) 1 (left_of_lem (eqb (count a js) 1) (every (λ j. eqb (count j js) 1) (from (suc a) n)) e)
    go ih false q = ih (lt_of_le-ne h (λ z. eqb-false i a q (sym z)))

pub once_ok : (n : ℕ) (js : List ℕ) → once_test n js ≡ true → Once n js
once_ok n js e i h = once_from_ok js n 0 e i (omega arith) (omega arith)
