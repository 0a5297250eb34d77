-- The cells of a subset are the cells of the shape whose coordinates lie in it, in row order, none twice.
-- Assumes nothing.
use mathlib.Core.Path.{◌≡◌, refl, sym, ap, ap₂, ◌∙◌, subst}
use Prim.Native.Nat.{ℕ, zero, suc, ◌+◌, ◌*◌, ◌-◌, ◌/◌, ◌%◌, ◌<◌, ◌≤◌}
use native.Mathlib.Nat.{add-zero, zero-mul, suc-mul}
use native.Mathlib.Omega.{arith}
use mathlib.Core.Bool.{Bool, true, false, ◌&&◌}
use mathlib.Core.List.{List, [], ◌∷◌, ◌++◌, map, append-nil}
use lib.Dec.{leb, ltb, eqb}
use lib.Arith.{lt_of_le-ne}
use borrow.Author.Tests.{eqb-true, eqb-false, ne_eqb, le-leb, lt-leb, lt-ltb, le-ltb}
use Rattle.std.proofs.lemmas.Nat.{div-mul-add, mod-mul-add}
use Rattle.array.specs.Lists.{pick, from, passing, count_passing, count, All}
use Rattle.array.specs.Shape.{volume}
use Rattle.array.specs.Subset.{Subset, SubsetOk, rows, cells_in, cells_of_all, coordinates, inside_test}
use Rattle.array.proofs.Lists.{All-of}
use Rattle.array.proofs.Sums.{count-append}

-- a choice between images is the image of the choice
pick_ap : {A B : Type 0} (h : A → B) (c : Bool) (x y : A) → pick c (h x) (h y) ≡ h (pick c x y)
pick_ap h true x y = refl
pick_ap h false x y = refl

-- ---- the elements that pass a test

module _ {A : Type 0} where
  -- of two lists laid end to end: those of the first, then those of the second
  pub passing-append : (f : A → Bool) (xs ys : List A) → passing f (xs ++ ys) ≡ passing f xs ++ passing f ys
  passing-append f [] ys = refl
  passing-append f (x ∷ xs) ys =
      rw (passing-append f xs ys) (pick_ap (λ (l : List A). l ++ passing f ys) (f x) (x ∷ passing f xs) (passing f xs))

  -- two tests that agree on the list let the same elements pass
  pub passing_cong : (f g : A → Bool) (xs : List A) → All (λ x. f x ≡ g x) xs → passing f xs ≡ passing g xs
  passing_cong f g [] p = refl
  passing_cong f g (x ∷ xs) p = ap₂ (λ (c : Bool) (r : List A). pick c (x ∷ r) r) p.0 (passing_cong f g xs p.1)

  -- where all pass, it is the list
  pub passing_all : (f : A → Bool) (xs : List A) → All (λ x. f x ≡ true) xs → passing f xs ≡ xs
  passing_all f [] p = refl
  passing_all f (x ∷ xs) p = ap₂ (λ (c : Bool) (r : List A). pick c (x ∷ r) r) p.0 (passing_all f xs p.1)

  -- where none passes, it is empty
  pub passing_none : (f : A → Bool) (xs : List A) → All (λ x. f x ≡ false) xs → passing f xs ≡ []
  passing_none f [] p = refl
  passing_none f (x ∷ xs) p = ap₂ (λ (c : Bool) (r : List A). pick c (x ∷ r) r) p.0 (passing_none f xs p.1)

  -- a condition that is the same for all elements lets all through to the other test, or none
  passing_and : (c : Bool) (g : A → Bool) (xs : List A) → passing (λ x. c && g x) xs ≡ pick c (passing g xs) []
  passing_and true g xs = refl
  passing_and false g xs = passing_none (λ x. false) xs (All-of (λ x. false ≡ false) (λ x. refl) xs)

-- of a list of images: the images of those whose image passes
pub passing-map : {A B : Type 0} (f : B → Bool) (h : A → B) (xs : List A) → passing f (map h xs) ≡ map h (passing (λ x. f (h x)) xs)
passing-map f h [] = refl
passing-map f h (x ∷ xs) =
    rw (passing-map f h xs) (pick_ap (map h) (f (h x)) (x ∷ passing (λ y. f (h y)) xs) (passing (λ y. f (h y)) xs))

-- of rows, where the test is one of the row and one of the place in it: the places that pass, in the rows that pass
module _ (v : ℕ) (f t g : ℕ → Bool) (js : List ℕ) (e : (i : ℕ) → All (λ j. f (i * v + j) ≡ (t i && g j)) js) where
  passing_row : (i : ℕ) → passing f (map (λ j. i * v + j) js) ≡ map (λ j. i * v + j) (pick (t i) (passing g js) [])
  passing_row i =
      passing-map f (λ j. i * v + j) js
      ∙ ap (map (λ j. i * v + j)) (passing_cong (λ j. f (i * v + j)) (λ j. t i && g j) js (e i) ∙ passing_and (t i) g js)

  pub passing-rows : (is : List ℕ) → passing f (rows v is js) ≡ rows v (passing t is) (passing g js)
  passing-rows [] = refl
  passing-rows (i ∷ is) =
      passing-append f (map (λ j. i * v + j) js) (rows v is js)
      ∙ ap₂ ◌++◌ (passing_row i) (passing-rows is)
      ∙ go (t i)
    where
      go : (c : Bool) → map (λ j. i * v + j) (pick c (passing g js) []) ++ rows v (passing t is) (passing g js)
          ≡ rows v (pick c (i ∷ passing t is) (passing t is)) (passing g js)
      go true = refl
      go false = refl

-- ---- runs of numbers

-- what holds of each number of a run holds of all of it
pub All-from : (P : ℕ → Type 0) (a n : ℕ) → ((i : ℕ) → a ≤ i → i < a + n → P i) → All P (from a n)
All-from P a zero h = tt
All-from P a (suc n) h = (h a (omega arith) (omega arith), All-from P (suc a) n (λ i l k. h i (omega arith) (omega arith)))

-- a run is its first m numbers and, from b on, the n others
pub from-append : (a m n b s : ℕ) → a + m ≡ b → m + n ≡ s → from a s ≡ from a m ++ from b n
from-append a zero n b s e f =
    let p : a ≡ b = omega arith in
    let q : s ≡ n = omega arith in
    ap₂ from p q
from-append a (suc m) n b s e f =
    let r : s ≡ suc (m + n) = omega arith in
    ap (from a) r ∙ ap (λ (l : List ℕ). a ∷ l) (from-append (suc a) m n b (m + n) (omega arith) refl)

-- a run moved by a is a run
pub map-add-from : (a b n : ℕ) → map (λ j. a + j) (from b n) ≡ from (a + b) n
map-add-from a b zero = refl
map-add-from a b (suc n) = ap (λ (r : List ℕ). (a + b) ∷ r) (map-add-from a (suc b) n ∙ ap (λ (k : ℕ). from k n) (omega arith))

-- s rows of v numbers are one run of s * v
pub rows-from : (v a s : ℕ) → rows v (from a s) (from 0 v) ≡ from (a * v) (s * v)
rows-from v a zero = ap (from (a * v)) (sym (zero-mul v))
rows-from v a (suc s) =
    ap₂ ◌++◌ (map-add-from (a * v) 0 v) (rows-from v (suc a) s)
    ∙ ap (λ (k : ℕ). from k v ++ from (suc a * v) (s * v)) (add-zero (a * v))
    ∙ sym (from-append (a * v) v (s * v) (suc a * v) (suc s * v) (sym (suc-mul a v)) (omega (arith, suc-mul s v)))

-- ---- one side: the numbers from a on, n of them

module _ (a n : ℕ) where
  abbrev side_test : ℕ → Bool
  side_test x = leb a x && ltb x (a + n)

  none_before : passing side_test (from 0 a) ≡ []
  none_before =
      passing_none side_test (from 0 a) (All-from (λ x. side_test x ≡ false) 0 a (λ x l h. ap (λ (c : Bool). c && ltb x (a + n)) (lt-leb a x (omega arith))))

  all_within : passing side_test (from a n) ≡ from a n
  all_within = passing_all side_test (from a n) (All-from (λ x. side_test x ≡ true) a n (λ x l h. ap₂ ◌&&◌ (le-leb a x l) (lt-ltb x (a + n) h)))

  none_after : (k : ℕ) → passing side_test (from (a + n) k) ≡ []
  none_after k =
      passing_none side_test (from (a + n) k)
      (All-from (λ x. side_test x ≡ false) (a + n) k (λ x l h. ap₂ ◌&&◌ (le-leb a x (omega arith)) (le-ltb x (a + n) l)))

  -- they are those of the side that pass the test
  pub passing_side : (s : ℕ) → a + n ≤ s → passing side_test (from 0 s) ≡ from a n
  passing_side s h =
      let k = s - (a + n) in
      ap (passing side_test) (from-append 0 a (n + k) a s (omega arith) (omega arith) ∙ ap (λ (r : List ℕ). from 0 a ++ r) (from-append a n k (a + n) (n + k) refl refl))
      ∙ passing-append side_test (from 0 a) (from a n ++ from (a + n) k)
      ∙ ap₂ ◌++◌ none_before (passing-append side_test (from a n) (from (a + n) k) ∙ ap₂ ◌++◌ all_within (none_after k))
      ∙ append-nil (from a n)

-- ---- place j of row i

-- a test of row and place is, along row i, the row's test of i and the place's of j
along_row : (v : ℕ) (t g : ℕ → Bool) (i : ℕ) → All (λ j. (t ((i * v + j) / v) && g ((i * v + j) % v)) ≡ (t i && g j)) (from 0 v)
along_row v t g i =
    All-from (λ j. (t ((i * v + j) / v) && g ((i * v + j) % v)) ≡ (t i && g j)) 0 v
    (λ j h l. ap₂ (λ (x y : ℕ). t x && g y) (div-mul-add i v j (omega arith)) (mod-mul-add i v j (omega arith)))

-- ---- the cells of a subset

-- the cells of a subset are the cells of the shape whose coordinates lie in it, in row order
pub cells_are : (shape : List ℕ) (b : Subset) → SubsetOk shape b
    → cells_in shape b ≡ passing (λ i. inside_test b (coordinates shape i)) (from 0 (volume shape))
cells_are [] [] p = refl
cells_are [] (b ∷ bs) p = absurd p
cells_are (s ∷ ss) [] p = absurd p
cells_are (s ∷ ss) (b ∷ bs) p =
    let v = volume ss in
    let g : ℕ → Bool = λ j. inside_test bs (coordinates ss j) in
    let t = side_test b.0 b.1 in
    let f : ℕ → Bool = λ i. t (i / v) && g (i % v) in
    ap₂ (rows v) (sym (passing_side b.0 b.1 s p.0)) (cells_are ss bs p.1)
    ∙ sym (passing-rows v f t g (from 0 v) (along_row v t g) (from 0 s))
    ∙ ap (passing f) (rows-from v 0 s ∙ ap (λ (k : ℕ). from k (s * v)) (zero-mul v))

-- ---- how often a number stands in a list

-- among those that pass: as often as in the list if it passes, else not at all
count-passing : (f : ℕ → Bool) (i : ℕ) (xs : List ℕ) → count i (passing f xs) ≡ pick (f i) (count i xs) 0
count-passing f i [] = sym (pick_ap (λ (n : ℕ). 0) (f i) 0 0)
count-passing f i (x ∷ xs) = go (f x) (f i) refl refl (count-passing f i xs)
  where
    go : (c d : Bool) → f x ≡ c → f i ≡ d → count i (passing f xs) ≡ pick d (count i xs) 0
        → count i (pick c (x ∷ passing f xs) (passing f xs)) ≡ pick d (count i (x ∷ xs)) 0
    go true true p q ih = ap (λ (m : ℕ). pick (eqb i x) (suc m) m) ih
    go true false p q ih = rw (ne_eqb i x (λ e. let z : ◌≡◌ {A = ℕ} 0 1 = cc in omega arith)) ih
    go false true p q ih = rw (ne_eqb i x (λ e. let z : ◌≡◌ {A = ℕ} 0 1 = cc in omega arith)) ih
    go false false p q ih = ih

-- in a run that begins after it: not at all
count-before : (i a n : ℕ) → i < a → count i (from a n) ≡ 0
count-before i a zero h = refl
count-before i a (suc n) h = rw (ne_eqb i a (λ e. omega arith)) (count-before i (suc a) n (omega arith))

-- in a run that it lies in: once
pub count-from : (i a n : ℕ) → a ≤ i → i < a + n → count i (from a n) ≡ 1
count-from i a zero h l = absurd (omega arith)
count-from i a (suc n) h l = go (eqb i a) refl (λ k. count-from i (suc a) n k (omega arith))
  where
    go : (c : Bool) → eqb i a ≡ c → (a < i → count i (from (suc a) n) ≡ 1) → pick c (suc (count i (from (suc a) n))) (count i (from (suc a) n)) ≡ 1
    go true e ih = ap suc (count-before i (suc a) n (omega (arith, eqb-true i a e)))
    go false e ih = ih (lt_of_le-ne h (λ q. eqb-false i a e (sym q)))

-- a cell of the shape stands among the cells of a subset once if its coordinates lie in the subset, else not at all
pub count_cells : (shape : List ℕ) (b : Subset) → SubsetOk shape b → (i : ℕ) → i < volume shape
    → count i (cells_in shape b) ≡ pick (inside_test b (coordinates shape i)) 1 0
count_cells shape b p i h =
    let f : ℕ → Bool = λ j. inside_test b (coordinates shape j) in
    ap (count i) (cells_are shape b p) ∙ count-passing f i (from 0 (volume shape)) ∙ ap (λ (n : ℕ). pick (f i) n 0) (count-from i 0 (volume shape) (omega arith) (omega arith))

-- a cell of the shape stands in the cells of the subsets as often as there are subsets that its coordinates lie in
pub count_all : (shape : List ℕ) (bs : List Subset) → All (SubsetOk shape) bs → (i : ℕ) → i < volume shape
    → count i (cells_of_all shape bs) ≡ count_passing (λ b. inside_test b (coordinates shape i)) bs
count_all shape [] p i h = refl
count_all shape (b ∷ bs) p i h =
    count-append i (cells_in shape b) (cells_of_all shape bs)
    ∙ ap₂ ◌+◌ (count_cells shape b p.0 i h) (count_all shape bs p.1 i h)
    ∙ go (inside_test b (coordinates shape i)) (count_passing (λ c. inside_test c (coordinates shape i)) bs)
  where
    go : (c : Bool) (n : ℕ) → pick c 1 0 + n ≡ pick c (suc n) n
    go true n = omega arith
    go false n = omega arith

-- ---- order

-- each element is below the next
abbrev pub StrictlyRising : List ℕ → Type 0
StrictlyRising [] = Unit {0}
StrictlyRising (x ∷ []) = Unit {0}
StrictlyRising (x ∷ (y ∷ ys)) = (x < y) × StrictlyRising (y ∷ ys)

-- a number, then what passes of a run above it
rises_after : (f : ℕ → Bool) (a b n : ℕ) → a < b → StrictlyRising (a ∷ passing f (from b n))
rises_after f a b zero h = tt
rises_after f a b (suc n) h = go (f b) (rises_after f a (suc b) n (omega arith)) (rises_after f b (suc b) n (omega arith))
  where
    go : (c : Bool) → StrictlyRising (a ∷ passing f (from (suc b) n)) → StrictlyRising (b ∷ passing f (from (suc b) n))
        → StrictlyRising (a ∷ pick c (b ∷ passing f (from (suc b) n)) (passing f (from (suc b) n)))
    go true skip take = (h, take)
    go false skip take = skip

-- what passes of a run rises strictly
pub passing_rises : (f : ℕ → Bool) (a n : ℕ) → StrictlyRising (passing f (from a n))
passing_rises f a zero = tt
passing_rises f a (suc n) = go (f a) (passing_rises f (suc a) n)
  where
    go : (c : Bool) → StrictlyRising (passing f (from (suc a) n)) → StrictlyRising (pick c (a ∷ passing f (from (suc a) n)) (passing f (from (suc a) n)))
    go true r = rises_after f a (suc a) n (omega arith)
    go false r = r

-- the cells of a subset rise strictly
pub cells_rise : (shape : List ℕ) (b : Subset) → SubsetOk shape b → StrictlyRising (cells_in shape b)
cells_rise shape b p =
    subst StrictlyRising (sym (cells_are shape b p)) (passing_rises (λ i. inside_test b (coordinates shape i)) 0 (volume shape))
