-- What the marks and the count of the cells tell: whether each cell stands in the list exactly once.
-- Assumes nothing.
use mathlib.Core.Path.{◌≡◌, refl, sym, ap, ◌∙◌}
use Prim.Native.Nat.{ℕ, zero, suc, ◌+◌, ◌-◌, ◌*◌, ◌<◌, ◌≤◌}
use native.Mathlib.Omega.{arith}
use mathlib.Core.Bool.{Bool, true, false, ◌&&◌}
use mathlib.Core.List.{List, [], ◌∷◌, ◌++◌}
use lib.ListN.{length, get_or, set, length-set, length-replicate, get_or-replicate}
use lib.Seq.{get_or-set_same, get_or-set_other}
use lib.Dec.{eqb, eqb-suc-suc}
use borrow.Author.Tests.{eq-eqb, ne_eqb, eqb-true, eqb-false}
use Rattle.array.specs.Limits.{most_cells}
use Rattle.array.specs.Answer.{gives, refuses, and_then, unless}
use Rattle.array.specs.Lists.{All, from, pick, count, every}
use Rattle.array.proofs.Sums.{sum_of, sum-count}
use Rattle.chunks.specs.Gather.{once_test}
use Rattle.chunks.proofs.Gather.{once_ok}
use Rattle.merge_cover.specs.Marks.{marking, unmarked}

-- ---- n cells below n, no two of them the same, are all of them

-- how often the cells from a on, n of them, stand in the list
abbrev standing : List ℕ → ℕ → ℕ → ℕ
standing js a n = sum_of (λ i. count i js * 1) (from a n)

long_standing : (n : ℕ) (js : List ℕ) → All (λ j. j < n) js → length js ≡ standing js 0 n
long_standing n js p = ones js ∙ sum-count (λ i. 1) n js p
  where
    ones : (xs : List ℕ) → length xs ≡ sum_of (λ i. 1) xs
    ones [] = refl
    ones (x ∷ xs) = omega (arith, ones xs)

full : (js : List ℕ) (a n : ℕ) → ((i : ℕ) → i < a + n → count i js ≤ 1)
    → (standing js a n ≤ n) × (every (λ i. eqb (count i js) 1) (from a n) ≡ eqb (standing js a n) n)
full js a zero h = (omega arith, refl)
full js a (suc n) h = let f = full js (suc a) n (λ i l. h i (omega arith)) in go (count a js) (h a (omega arith)) (standing js (suc a) n) f.0 f.1
  where
    go : (c : ℕ) → c ≤ 1 → (s : ℕ) → s ≤ n → {t : Bool} → t ≡ eqb s n → (c * 1 + s ≤ suc n) × (eqb c 1 && t ≡ eqb (c * 1 + s) (suc n))
    go zero l s k e = (omega arith, sym (ne_eqb (0 * 1 + s) (suc n) (λ q. omega arith)))
    go (suc zero) l s k e = let q : suc s ≡ 1 * 1 + s = omega arith in (omega arith, e ∙ sym (eqb-suc-suc s n) ∙ ap (λ (x : ℕ). eqb x (suc n)) q)
    go (suc (suc c)) l s k e = absurd (omega arith)

module _ (n : ℕ) (js : List ℕ) (p : All (λ j. j < n) js) where
  by_length : ((i : ℕ) → i < n → count i js ≤ 1) → once_test n js ≡ eqb (length js) n
  by_length h = (full js 0 n (λ i l. h i (omega arith))).1 ∙ ap (λ (x : ℕ). eqb x n) (sym (long_standing n js p))

  pub once_long : once_test n js ≡ true → length js ≡ n
  once_long t = eqb-true (length js) n (sym (by_length (λ i l. omega (arith, once_ok n js t i l))) ∙ t)

-- ---- cells that are not marked, and stand in the list at most once: count i js ≤ 1 - mark of i

count_head : (j : ℕ) (js : List ℕ) → 1 ≤ count j (j ∷ js)
count_head j js = rw (eq-eqb j j refl) (omega arith)

-- j is marked, or is one more in the list
marked_or_listed : (m : List ℕ) (j : ℕ) (js : List ℕ) (i : ℕ) → j < length m → get_or m j 0 ≡ 0
    → (count i (j ∷ js) ≤ 1 - get_or m i 0 → count i js ≤ 1 - get_or (set m j 1) i 0) × (count i js ≤ 1 - get_or (set m j 1) i 0 → count i (j ∷ js) ≤ 1 - get_or m i 0)
marked_or_listed m j js i h z = go (eqb i j) refl
  where
    go : (b : Bool) → eqb i j ≡ b
        → (pick b (suc (count i js)) (count i js) ≤ 1 - get_or m i 0 → count i js ≤ 1 - get_or (set m j 1) i 0) ×
        (count i js ≤ 1 - get_or (set m j 1) i 0 → pick b (suc (count i js)) (count i js) ≤ 1 - get_or m i 0)
    go true e =
        let q : i ≡ j = eqb-true i j e in
        let a : get_or (set m j 1) i 0 ≡ 1 = ap (λ (k : ℕ). get_or (set m j 1) k 0) q ∙ get_or-set_same m j 1 0 h in
        let b : get_or m i 0 ≡ 0 = ap (λ (k : ℕ). get_or m k 0) q ∙ z in
        (λ l. omega arith, λ l. omega arith)
    go false e = let a : get_or (set m j 1) i 0 ≡ get_or m i 0 = get_or-set_other m j i 1 0 (eqb-false i j e) in (λ l. omega arith, λ l. omega arith)

module _ (n : ℕ) where
  can_be_marked : (m js : List ℕ) → n ≤ length m → All (λ j. j < n) js → ((i : ℕ) → i < n → count i js ≤ 1 - get_or m i 0)
      → (m' : List ℕ) × (marking m js ≡ gives m')
  unfolding marking
  can_be_marked m [] h p o = (m, refl)
  can_be_marked m (j ∷ js) h p o =
      let z : get_or m j 0 ≡ 0 = omega (arith, o j p.0, count_head j js) in
      let w = can_be_marked (set m j 1) js (omega (arith, length-set m j 1)) p.1 (λ i l. (marked_or_listed m j js i (omega (arith, p.0)) z).0 (o i l)) in
      (w.0, ap (λ (b : Bool). unless b 12 (marking (set m j 1) js)) (eq-eqb (get_or m j 0) 0 z) ∙ w.1)

  were_marked : (m js m' : List ℕ) → n ≤ length m → All (λ j. j < n) js → gives m' ≡ marking m js → (i : ℕ) → count i js ≤ 1 - get_or m i 0
  unfolding marking
  were_marked m [] m' h p e i = omega arith
  were_marked m (j ∷ js) m' h p e i = go (eqb (get_or m j 0) 0) refl e (λ q. were_marked (set m j 1) js m' (omega (arith, length-set m j 1)) p.1 q i)
    where
      go : (b : Bool) → eqb (get_or m j 0) 0 ≡ b → gives m' ≡ unless b 12 (marking (set m j 1) js)
          → (gives m' ≡ marking (set m j 1) js → count i js ≤ 1 - get_or (set m j 1) i 0) → count i (j ∷ js) ≤ 1 - get_or m i 0
      go true t e ih = (marked_or_listed m j js i (omega (arith, p.0)) (eqb-true (get_or m j 0) 0 t)).1 (ih e)
      go false t e ih = let z : ◌≡◌ {A = ℕ} 0 1 = cc in absurd (omega arith)

-- ---- the test of refusal 12

unmarked_long : length unmarked ≡ most_cells
unfolding unmarked
unmarked_long = length-replicate {A = ℕ} most_cells 0

unmarked_at : (i : ℕ) → i < most_cells → get_or unmarked i 0 ≡ 0
unfolding unmarked
unmarked_at i h = get_or-replicate {A = ℕ} most_cells i 0 0 h

module _ (n : ℕ) (js : List ℕ) (few : n ≤ most_cells) (p : All (λ j. j < n) js) where
  pub once_marked : (m' : List ℕ) → gives m' ≡ marking unmarked js → once_test n js ≡ eqb (length js) n
  once_marked m' e = by_length n js p (λ i h. omega (arith, were_marked n unmarked js m' (omega (arith, unmarked_long)) p e i))

  pub once_refused : refuses 12 ≡ marking unmarked js → once_test n js ≡ false
  once_refused e = go (once_test n js) refl
    where
      go : (b : Bool) → once_test n js ≡ b → b ≡ false
      go false t = refl
      go true t =
          let w = can_be_marked n unmarked js (omega (arith, unmarked_long)) p (λ i h. omega (arith, once_ok n js t i h, unmarked_at i (omega arith))) in
          let m : List ℕ = w.0 in
          let q : marking unmarked js ≡ gives m = w.1 in
          let z : ◌≡◌ {A = ℕ} 0 1 = cc in absurd (omega arith)

  pub once_beyond : n < length js → once_test n js ≡ false
  once_beyond h = go (once_test n js) refl
    where
      go : (b : Bool) → once_test n js ≡ b → b ≡ false
      go false t = refl
      go true t = absurd (omega (arith, once_long n js p t))

-- ---- marking one list after another

pub marking-append : (m xs ys : List ℕ) → marking m (xs ++ ys) ≡ and_then (marking m xs) (λ u. marking u ys)
unfolding marking
marking-append m [] ys = refl
marking-append m (x ∷ xs) ys = go (eqb (get_or m x 0) 0) (marking-append (set m x 1) xs ys)
  where
    go : (b : Bool) → marking (set m x 1) (xs ++ ys) ≡ and_then (marking (set m x 1) xs) (λ u. marking u ys)
        → unless b 12 (marking (set m x 1) (xs ++ ys)) ≡ and_then (unless b 12 (marking (set m x 1) xs)) (λ u. marking u ys)
    go true e = e
    go false e = refl
