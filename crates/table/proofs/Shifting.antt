-- The first of the cells that start elsewhere, put at its packed start: the cells lie in the order they had, apart, and the others are left to move.
-- Assumes nothing.
use Prim.Native.Nat.{ℕ, ◌≤◌, ◌<◌}
use native.Mathlib.Omega.{arith}
use mathlib.Core.Path.{◌≡◌, refl, sym, ap, ap₂, ◌∙◌}
use mathlib.Core.Logic.{◌⊎◌, inl, inr, ⊎_elim}
use mathlib.Core.Bool.{Bool, true, false, not}
use mathlib.Core.List.{List, [], ◌∷◌, map}
use lib.Dec.{leb, ltb, eqb}
use lib.Arith.{lt_of_le-ne}
use borrow.Author.Tests.{lt-ltb, le-ltb, ltb-true, ltb-false, le-leb, lt-leb, leb-true, leb-false, eq-eqb, eqb-true, not-false}
use Rattle.array.specs.Lists.{pick, passing, All, count}
use Rattle.array.specs.Places.{sum}
use Rattle.array.proofs.Lists.{All-map}
use Rattle.array.proofs.Geometry.{passing_cong}
use Rattle.table.specs.Table.{ending, filled_by, Apart}
use Rattle.table.specs.Lying.{put_among, lying_by, packed_at, displaced_by}
use Rattle.table.specs.Order.{Follow}
use Rattle.table.proofs.Order.{same_or_not, count_here, count_more, count-All, All-same, follow_above, lying_lies, lies_all, lies_follow, lies_some}
use Rattle.table.proofs.Each.{all_apart, apart_all}
use Rattle.table.proofs.Filled.{Full, all_full, full_all, Parted, parted}
use Rattle.table.proofs.Fitting.{packed_rises, packed_low}

All-both : {A : Type 0} (P Q R : A → Type 0) → ((x : A) → P x → Q x → R x) → (xs : List A) → All P xs → All Q xs → All R xs
All-both P Q R f [] p q = tt
All-both P Q R f (x ∷ xs) p q = (f x p.0 q.0, All-both P Q R f xs p.1 q.1)

-- ---- the first that passes a test, of cells that follow one another

pub record First (start : ℕ → ℕ) (f : ℕ → Bool) (js : List ℕ) (j : ℕ) (rest : List ℕ) : Type 0 where
  pub here : 1 ≤ count j js
  pub below : All (λ k. start k < start j → f k ≡ false) js
  -- a test that it alone does not pass any more
  pub without : (g : ℕ → Bool) → g j ≡ false → All (λ k. (k ≡ j → ⊥) → g k ≡ f k) js → passing g js ≡ rest

module _ (start len : ℕ → ℕ) (f : ℕ → Bool) (j : ℕ) (rest : List ℕ) where
  pub first : (at : ℕ) (js : List ℕ) → Follow start len at js → All (λ i. 0 < len i) js → passing f js ≡ j ∷ rest → First start f js j rest
  first at [] w p e = absurd (let never : ◌≡◌ {A = ℕ} 0 1 = cc in omega arith)
  first at (i ∷ is) w p e = go (f i) refl e (first (ending start len i) is w.1 p.1)
    where
      above : All (λ k. ending start len i ≤ start k) is
      above = follow_above start len (ending start len i) is w.1

      fails : (g : ℕ → Bool) → g i ≡ false → {r : List ℕ} → passing g is ≡ r → passing g (i ∷ is) ≡ r
      fails g z h = ap (λ (b : Bool). pick b (i ∷ passing g is) (passing g is)) z ∙ h

      go : (b : Bool) → f i ≡ b → pick b (i ∷ passing f is) (passing f is) ≡ j ∷ rest → (passing f is ≡ j ∷ rest → First start f is j rest)
          → First start f (i ∷ is) j rest
      go true t q next =
          let same : i ≡ j = cc in
          let others : passing f is ≡ rest = cc in
          record {
            here = omega (arith, count_here j is, ap (λ (x : ℕ). count j (x ∷ is)) same);
            below = (
              (λ h. absurd (omega (arith, ap start same))),
              All-map (λ k. ending start len i ≤ start k) (λ k. start k < start j → f k ≡ false) (λ k l h. absurd (omega (arith, ap start same))) is above,
            );
            without = λ g z a.
                fails g (ap g same ∙ z)
                (passing_cong g f is
                (All-both (λ k. ending start len i ≤ start k) (λ k. (k ≡ j → ⊥) → g k ≡ f k) (λ k. g k ≡ f k)
                (λ k l h. h (λ c. omega (arith, ap start same, ap start c, p.0))) is above a.1)
                ∙ others);
          }
      go false t q next =
          let r = next q in
          record {
            here = omega (arith, r.here, count_more j i is);
            below = ((λ h. t), r.below);
            without = λ g z a. fails g (⊎_elim (λ c. ap g c ∙ z) (λ c. a.0 c ∙ t) (same_or_not i j)) (r.without g z a.1);
          }

-- ---- other starts in the same order

module _ (start start' len : ℕ → ℕ) (n : ℕ) (q : Parted start len n) (up : (i j : ℕ) → Full len n i → Full len n j → start i < start j → start' i < start' j) where
  up_le : (i j : ℕ) → Full len n i → Full len n j → start i ≤ start j → start' i ≤ start' j
  up_le i j a b h = go (same_or_not (start i) (start j))
    where
      go : (start i ≡ start j) ⊎ (start i ≡ start j → ⊥) → start' i ≤ start' j
      go (inl e) = omega (arith, ap start' (q.differ i j a b e))
      go (inr e) = omega (arith, up i j a b (lt_of_le-ne h e))

  leb_same : (i j : ℕ) → Full len n i → Full len n j → leb (start i) (start j) ≡ leb (start' i) (start' j)
  leb_same i j a b = go (leb (start i) (start j)) refl
    where
      go : (t : Bool) → leb (start i) (start j) ≡ t → t ≡ leb (start' i) (start' j)
      go true e = sym (le-leb (start' i) (start' j) (up_le i j a b (leb-true (start i) (start j) e)))
      go false e = sym (lt-leb (start' i) (start' j) (up j i b a (leb-false (start i) (start j) e)))

  ltb_same : (i j : ℕ) → Full len n i → Full len n j → ltb (start i) (start j) ≡ ltb (start' i) (start' j)
  ltb_same i j a b = go (ltb (start i) (start j)) refl
    where
      go : (t : Bool) → ltb (start i) (start j) ≡ t → t ≡ ltb (start' i) (start' j)
      go true e = sym (lt-ltb (start' i) (start' j) (up i j a b (ltb-true (start i) (start j) e)))
      go false e = sym (le-ltb (start' i) (start' j) (up_le j i b a (ltb-false (start i) (start j) e)))

  put_same : (j : ℕ) → Full len n j → (is : List ℕ) → All (Full len n) is → put_among start len j is ≡ put_among start' len j is
  put_same j b [] p = refl
  put_same j b (i ∷ is) p =
      ap (λ (t : Bool). pick t (j ∷ i ∷ is) (i ∷ put_among start len j is)) (leb_same j i b p.0)
      ∙ ap (λ (r : List ℕ). pick (leb (start' j) (start' i)) (j ∷ i ∷ is) (i ∷ r)) (put_same j b is p.1)

  all_put : (P : ℕ → Type 0) (j : ℕ) (is : List ℕ) → P j → All P is → All P (put_among start len j is)
  all_put P j [] p q = (p, tt)
  all_put P j (i ∷ is) p q = go (leb (start j) (start i)) (all_put P j is p q.1)
    where
      go : (b : Bool) → All P (put_among start len j is) → All P (pick b (j ∷ i ∷ is) (i ∷ put_among start len j is))
      go true r = (p, q)
      go false r = (q.0, r)

  full_lying : (js : List ℕ) → All (Full len n) js → All (Full len n) (lying_by start len js)
  full_lying [] p = tt
  full_lying (j ∷ js) p = all_put (Full len n) j (lying_by start len js) p.0 (full_lying js p.1)

  pub lying_same : (js : List ℕ) → All (Full len n) js → lying_by start len js ≡ lying_by start' len js
  lying_same [] p = refl
  lying_same (j ∷ js) p =
      put_same j p.0 (lying_by start len js) (full_lying js p.1) ∙ ap (put_among start' len j) (lying_same js p.1)

  pub packed_same : (j : ℕ) → Full len n j → packed_at start len (filled_by start len n) j ≡ packed_at start' len (filled_by start len n) j
  packed_same j b =
      ap (λ (is : List ℕ). sum (map len is))
      (passing_cong (λ i. ltb (start i) (start j)) (λ i. ltb (start' i) (start' j)) (filled_by start len n)
      (all_full start len n (λ i. ltb (start i) (start j) ≡ ltb (start' i) (start' j)) (λ i a. ltb_same i j a b)))

-- ---- the first that starts elsewhere, put at its packed start

module _ (start len : ℕ → ℕ) (n : ℕ) (p : Apart start len (filled_by start len n)) (j : ℕ) (rest : List ℕ)
    (e : displaced_by start len (filled_by start len n) ≡ j ∷ rest) where
  abbrev cells : List ℕ
  cells = filled_by start len n

  abbrev place : ℕ → ℕ
  place i = packed_at start len cells i

  the_first : First start (λ i. not (eqb (start i) (place i))) (lying_by start len cells) j rest
  the_first =
      let lies = lying_lies start len n in
      first start len (λ i. not (eqb (start i) (place i))) j rest 0 (lying_by start len cells) (lies_follow lies p) (lies_some lies) e

  pub first_full : Full len n j
  first_full =
      count-All (Full len n) (lying_by start len cells) (lies_all (lying_lies start len n) (Full len n) (all_full start len n (Full len n) (λ i a. a))) j the_first.here

  -- those that lie lower start at their packed starts
  first_tight : (i : ℕ) → Full len n i → start i < start j → start i ≡ place i
  first_tight i a h =
      let at : All (λ k. start k < start j → not (eqb (start k) (place k)) ≡ false) cells =
      All-same (λ k. start k < start j → not (eqb (start k) (place k)) ≡ false) (lying_by start len cells) cells (lying_lies start len n).same the_first.below in
      eqb-true (start i) (place i)
      (not-false (eqb (start i) (place i)) (full_all start len n (λ k. start k < start j → not (eqb (start k) (place k)) ≡ false) at i a h))

  module _ (start' : ℕ → ℕ) (moved : start' j ≡ place j) (kept : (i : ℕ) → (i ≡ j → ⊥) → start' i ≡ start i) where
    -- what lay under a cell lies under it
    pub under : (i k : ℕ) → Full len n i → Full len n k → ending start len i ≤ start k → ending start' len i ≤ start' k
    under i k a b h = go (same_or_not i j) (same_or_not k j)
      where
        go : (i ≡ j) ⊎ (i ≡ j → ⊥) → (k ≡ j) ⊎ (k ≡ j → ⊥) → ending start' len i ≤ start' k
        go (inl x) (inl y) = absurd (omega (arith, ap start x, ap start y))
        go (inl x) (inr y) = omega (arith, ap start x, ap len x, ap start' x, moved, kept k y, packed_low start len n p j first_full)
        go (inr x) (inl y) =
            let l : start i < start j = omega (arith, ap start y) in
            omega (arith, ap start' y, moved, kept i x, first_tight i a l, packed_rises start len n i j a l)
        go (inr x) (inr y) = omega (arith, kept i x, kept k y)

    up : (i k : ℕ) → Full len n i → Full len n k → start i < start k → start' i < start' k
    up i k a b h = omega (arith, under i k a b ((parted start len n p).lower i k a b h))

    pub shifted_apart : Apart start' len cells
    shifted_apart =
        all_apart start' len n
        (λ i k h m x y.
        ⊎_elim (λ c. inl (under i k (omega arith, x) (m, y) c)) (λ c. inr (under k i (m, y) (omega arith, x) c)) (apart_all start len n p i k h m x y))

    pub shifted_packed : (i : ℕ) → Full len n i → packed_at start' len cells i ≡ place i
    shifted_packed i a = sym (packed_same start start' len n (parted start len n p) up i a)

    pub shifted_left : displaced_by start' len cells ≡ rest
    shifted_left =
        let lies = lying_lies start len n in
        let same : lying_by start' len cells ≡ lying_by start len cells =
        sym (lying_same start start' len n (parted start len n p) up cells (all_full start len n (Full len n) (λ i a. a))) in
        let gone : not (eqb (start' j) (packed_at start' len cells j)) ≡ false =
        ap not (eq-eqb (start' j) (packed_at start' len cells j) (moved ∙ sym (shifted_packed j first_full))) in
        let others : All (λ k. (k ≡ j → ⊥) → not (eqb (start' k) (packed_at start' len cells k)) ≡ not (eqb (start k) (place k))) cells =
        all_full start len n (λ k. (k ≡ j → ⊥) → not (eqb (start' k) (packed_at start' len cells k)) ≡ not (eqb (start k) (place k)))
        (λ k a c. ap₂ (λ (x y : ℕ). not (eqb x y)) (kept k c) (shifted_packed k a)) in
        ap (passing (λ k. not (eqb (start' k) (packed_at start' len cells k)))) same
        ∙ the_first.without (λ k. not (eqb (start' k) (packed_at start' len cells k))) gone
        (lies_all lies (λ k. (k ≡ j → ⊥) → not (eqb (start' k) (packed_at start' len cells k)) ≡ not (eqb (start k) (place k))) others)
