-- The rest form of a table by its planes: where every mask byte is 00 or 01, a cell rests where none of its mask bytes is over the one before
-- it, and it has no bytes where the innermost is 0.
-- Assumes nothing.
use mathlib.Core.Path.{◌≡◌, refl, sym, ap, ◌∙◌, subst}
use mathlib.Core.Bool.{Bool, true, false, ◌&&◌}
use mathlib.Core.List.{List}
use Prim.Native.Nat.{ℕ, zero, suc, ◌+◌, ◌-◌, ◌*◌, ◌/◌, ◌%◌, ◌≤◌, ◌<◌}
use native.Mathlib.Nat.{zero-mul, suc-mul, div-add-mod', mod-lt, div-lt_iff_lt-mul}
use native.Mathlib.Omega.{arith}
use lib.ListN.{length, get_or}
use lib.Dec.{ltb}
use lib.Arith.{digits_lt}
use borrow.Author.Tests.{le-leb, leb-true, lt-ltb}
use Rattle.array.specs.Lists.{from, All, every}
use Rattle.array.specs.Cells.{Strict, strict_test, set_test}
use Rattle.array.specs.Places.{mask_at, shown_by}
use Rattle.array.proofs.Lists.{All-get_or}
use Rattle.array.proofs.Rules.{both, left_of_lem, right_of, all_every, strict_ok}
use Rattle.table.specs.Table.{OrZero, or_zero_test, RestMasks, rest_masks_test, rest_by_test}
use Rattle.table.proofs.Rules.{rest_masks_test_lem, rest_masks_ok}
use Rattle.table_check.specs.Check.{fall_at, falls_test, null_at, nulls_test}
use Rattle.table_check.proofs.Walks.{same_test, every-from, every_at}

-- ---- one cell, of mask bytes m l that are 0 or 1

module _ (m : ℕ → ℕ) (strict : (l : ℕ) → m l ≤ 1) where
  -- in rest form, the innermost byte says what is shown below it
  shown_by_last : (l : ℕ) → RestMasks m (suc l) → shown_by m (suc l) ≡ ltb 0 (m l)
  shown_by_last l p = go (shown_by m l) (m l) (strict l) p.1
    where
      go : (b : Bool) (x : ℕ) → x ≤ 1 → OrZero b x → b && set_test x ≡ ltb 0 x
      go true zero h q = refl
      go true (suc zero) h q = refl
      go true (suc (suc x)) h q = absurd (omega arith)
      go false x h q = ap (ltb 0) (sym q)

  rest_first : (d e : ℕ) → RestMasks m (d + e) → RestMasks m d
  rest_first d zero p = rw (let e : d ≡ d + 0 = omega arith in e) p
  rest_first d (suc e) p = rest_first d e (rw (let q : d + suc e ≡ suc (d + e) = omega arith in q) at p).0

  -- no byte is over the one before it
  rest_falls : (d : ℕ) → RestMasks m d → (l : ℕ) → suc l < d → m (suc l) ≤ m l
  rest_falls d p l h =
      let e : suc (suc l) + (d - suc (suc l)) ≡ d = omega arith in
      let q : RestMasks m (suc (suc l)) = rest_first (suc (suc l)) (d - suc (suc l)) (subst (RestMasks m) (sym e) p) in
      go (m l) (m (suc l)) (strict (suc l)) (subst (λ (b : Bool). OrZero b (m (suc l))) (shown_by_last l q.0) q.1)
    where
      go : (x y : ℕ) → y ≤ 1 → OrZero (ltb 0 x) y → y ≤ x
      go zero y h q = omega arith
      go (suc x) y h q = omega arith

  falls_rest : (d : ℕ) → ((l : ℕ) → suc l < d → m (suc l) ≤ m l) → RestMasks m d
  falls_rest zero f = tt
  falls_rest (suc zero) f = (tt, tt)
  falls_rest (suc (suc l)) f =
      let p : RestMasks m (suc l) = falls_rest (suc l) (λ i h. f i (omega arith)) in
      (p, subst (λ (b : Bool). OrZero b (m (suc l))) (sym (shown_by_last l p)) (go (m l) (m (suc l)) (f l (omega arith))))
    where
      go : (x y : ℕ) → y ≤ x → OrZero (ltb 0 x) y
      go zero y h = omega arith
      go (suc x) y h = rw (lt-ltb 0 (suc x) (omega arith)) tt

-- ---- the planes of n cells of suc e levels

module _ (e n : ℕ) (masks : List ℕ) (some : 0 < n) (fit : length masks ≡ suc e * n) (strict : All Strict masks) where
  low : (i : ℕ) → get_or masks i 0 ≤ 1
  low i = All-get_or Strict 0 (omega arith) masks strict i

  abbrev cell_masks_lem : ℕ → ℕ → ℕ
  cell_masks_lem j l = mask_at n masks l j

  planes_fall : ((j : ℕ) → j < n → RestMasks (cell_masks_lem j) (suc e)) → (i : ℕ) → n ≤ i → i < length masks → get_or masks i 0 ≤ get_or masks (i - n) 0
  planes_fall rests i h l =
      go (i / n) (i % n) (div-add-mod' i n) (mod-lt i some) ((div-lt_iff_lt-mul some).1 (subst (λ (s : ℕ). i < s) fit l))
    where
      go : (q r : ℕ) → q * n + r ≡ i → r < n → q < suc e → get_or masks i 0 ≤ get_or masks (i - n) 0
      go zero r a b c = absurd (omega (arith, zero-mul n))
      go (suc q) r a b c =
          let back : q * n + r ≡ i - n = omega (arith, suc-mul q n) in
          omega (arith, rest_falls (cell_masks_lem r) (λ k. low (k * n + r)) (suc e) (rests r b) q c, ap (λ (k : ℕ). get_or masks k 0) a, ap (λ (k : ℕ). get_or masks k 0) back)

  cells_rest : ((i : ℕ) → n ≤ i → i < length masks → get_or masks i 0 ≤ get_or masks (i - n) 0) → (j : ℕ) → j < n → RestMasks (cell_masks_lem j) (suc e)
  cells_rest falls j h = falls_rest (cell_masks_lem j) (λ k. low (k * n + j)) (suc e) (λ l c.
      let back : suc l * n + j - n ≡ l * n + j = omega (arith, suc-mul l n) in
      omega (arith, falls (suc l * n + j) (omega (arith, suc-mul l n)) (omega (arith, digits_lt c h)), ap (λ (k : ℕ). get_or masks k 0) back))

  null_at_lem : (j len : ℕ) → RestMasks (cell_masks_lem j) (suc e) → or_zero_test (shown_by (cell_masks_lem j) (suc e)) len ≡ or_zero_test (ltb 0 (get_or masks (length masks - n + j) 0)) len
  null_at_lem j len p =
      let place : e * n + j ≡ length masks - n + j = omega (arith, suc-mul e n) in
      ap (λ (b : Bool). or_zero_test b len) (shown_by_last (cell_masks_lem j) (λ k. low (k * n + j)) e p ∙ ap (λ (k : ℕ). ltb 0 (get_or masks k 0)) place)

  module _ (lengths : List ℕ) where
    abbrev rest_at : ℕ → Bool
    rest_at j = rest_by_test (cell_masks_lem j) (suc e) (get_or lengths j 0)

    abbrev mask_test : ℕ → Bool
    mask_test j = rest_masks_test (cell_masks_lem j) (suc e)

    abbrev length_test : ℕ → Bool
    length_test j = or_zero_test (shown_by (cell_masks_lem j) (suc e)) (get_or lengths j 0)

    to_stages : every rest_at (from 0 n) ≡ true → falls_test n masks && nulls_test n (length masks - n) masks lengths ≡ true
    to_stages t =
        let at : (j : ℕ) → j < n → rest_at j ≡ true = λ j h. every_at rest_at 0 n t j (omega arith) (omega arith) in
        let rests : (j : ℕ) → j < n → RestMasks (cell_masks_lem j) (suc e) = λ j h. rest_masks_ok (cell_masks_lem j) (suc e) (left_of_lem (mask_test j) (length_test j) (at j h)) in
        both
        (every-from (fall_at n masks) n (length masks - n)
        (λ i a b. le-leb (get_or masks i 0) (get_or masks (i - n) 0) (planes_fall rests i a (omega arith))))
        (every-from (null_at (length masks - n) masks lengths) 0 n (λ j a b.
        let h : j < n = omega arith in
        sym (null_at_lem j (get_or lengths j 0) (rests j h)) ∙ right_of (mask_test j) (length_test j) (at j h)))

    from_stages : falls_test n masks && nulls_test n (length masks - n) masks lengths ≡ true → every rest_at (from 0 n) ≡ true
    from_stages t =
        let f : Bool = falls_test n masks in
        let z : Bool = nulls_test n (length masks - n) masks lengths in
        let falls : (i : ℕ) → n ≤ i → i < length masks → get_or masks i 0 ≤ get_or masks (i - n) 0 =
        λ i a b. leb-true (get_or masks i 0) (get_or masks (i - n) 0) (every_at (fall_at n masks) n (length masks - n) (left_of_lem f z t) i a (omega arith)) in
        every-from rest_at 0 n (λ j a b.
        let h : j < n = omega arith in
        let p : RestMasks (cell_masks_lem j) (suc e) = cells_rest falls j h in
        both (rest_masks_test_lem (cell_masks_lem j) (suc e) p) (null_at_lem j (get_or lengths j 0) p ∙ every_at (null_at (length masks - n) masks lengths) 0 n (right_of f z t) j a b))

    stages_are : falls_test n masks && nulls_test n (length masks - n) masks lengths ≡ every rest_at (from 0 n)
    stages_are = same_test (falls_test n masks && nulls_test n (length masks - n) masks lengths) (every rest_at (from 0 n)) from_stages to_stages

-- ---- a table of any depth

module _ (d n : ℕ) (masks lengths : List ℕ) where
  abbrev rest_test : Bool
  rest_test = every (λ j. rest_by_test (λ l. mask_at n masks l j) d (get_or lengths j 0)) (from 0 n)

  pub no_levels : d ≡ 0 → true ≡ rest_test
  no_levels e =
      sym (every-from (λ j. true) 0 n (λ i a b. refl)) ∙ ap (λ (k : ℕ). every (λ j. rest_by_test (λ l. mask_at n masks l j) k (get_or lengths j 0)) (from 0 n)) (sym e)

rests_are : (d n : ℕ) (masks lengths : List ℕ) → (d ≡ 0 → ⊥) → 0 < n → length masks ≡ d * n → every strict_test masks ≡ true
    → falls_test n masks && nulls_test n (length masks - n) masks lengths ≡ every (λ j. rest_by_test (λ l. mask_at n masks l j) d (get_or lengths j 0)) (from 0 n)
rests_are zero n masks lengths deep some fit strict = absurd (deep refl)
rests_are (suc e) n masks lengths deep some fit strict = stages_are e n masks some fit (all_every Strict strict_test strict_ok masks strict) lengths

-- what the stages answer
module _ (d n : ℕ) (masks lengths : List ℕ) (deep : d ≡ 0 → ⊥) (some : 0 < n) (fit : length masks ≡ d * n) (strict : every strict_test masks ≡ true) where
  abbrev nulls : Bool
  nulls = nulls_test n (length masks - n) masks lengths

  pub planes_rise : {r : Bool} → r ≡ falls_test n masks → r ≡ false → r ≡ rest_test d n masks lengths
  planes_rise q e = e ∙ ap (λ (b : Bool). b && nulls) (sym (sym q ∙ e)) ∙ rests_are d n masks lengths deep some fit strict

  pub nulls_left : {f r : Bool} → f ≡ falls_test n masks → f ≡ true → r ≡ nulls → r ≡ rest_test d n masks lengths
  nulls_left q e z = z ∙ ap (λ (b : Bool). b && nulls) (sym (sym q ∙ e)) ∙ rests_are d n masks lengths deep some fit strict
