-- Whether a level counts a cell, as 1 or 0, and the counting that adds these up.
-- Assumes nothing.
use mathlib.Core.Path.{◌≡◌, refl, sym, ap, ap₂, ◌∙◌}
use mathlib.Core.Logic.{◌≢◌}
use Prim.Native.Nat.{ℕ, zero, suc, ◌+◌, ◌-◌, ◌*◌, ◌<◌, ◌≤◌}
use native.Mathlib.Nat.{sub-zero, zero-add, zero-mul, one-mul, suc-mul, mul-le-mul_right}
use native.Mathlib.Numerals.{add-one}
use native.Mathlib.Omega.{arith}
use mathlib.Core.Bool.{Bool, true, false, ◌&&◌}
use mathlib.Core.List.{List, [], ◌∷◌}
use lib.ListN.{length, take, drop, get_or}
use lib.Seq.{drop-cons}
use Rattle.array.specs.Lists.{pick, from, passing}
use Rattle.array.specs.Cells.{Mark, is_null, is_set, is_other, mark_of, set_test, set_test_by}
use Rattle.array.specs.Places.{mask_at, shown_at}
use Rattle.array.proofs.Lists.{All-of, length_from_lem}
use Rattle.array.proofs.Geometry.{passing_cong}
use Rattle.codec.specs.Frame.{count_set, count_by}
use Rattle.live_cells.specs.Live.{set_one, live_one, live_at, live_from}
use Rattle.live_cells.proofs.Runs.{passing_end, live_all}

-- ---- one cell

-- a byte is counted as one, or not
pub set_one_lem : (m : ℕ) → count_set (m ∷ []) ≡ set_one m
set_one_lem m = go (mark_of m)
  where
    go : (k : Mark) → count_by k 0 ≡ pick (set_test_by k) 1 0
    go is_null = refl
    go is_set = refl
    go is_other = refl

pub one_le : (b : Bool) → pick b 1 0 ≤ 1
one_le true = omega arith
one_le false = omega arith

pub zero_false : (b : Bool) → pick {A = ℕ} b 1 0 ≡ 0 → b ≡ false
zero_false true e = absurd (omega arith)
zero_false false e = refl

pub one_true : (b : Bool) → pick {A = ℕ} b 1 0 ≢ 0 → b ≡ true
one_true true f = refl
one_true false f = absurd (f refl)

-- two marks and their product
pub marks_both : (a b : Bool) → pick a 1 0 * pick b 1 0 ≡ pick (a && b) 1 0
marks_both true b = one-mul (pick b 1 0)
marks_both false b = zero-mul (pick b 1 0)

module _ (n : ℕ) (masks : List ℕ) (i : ℕ) where
  -- one level, and a level more: a factor more
  pub mark_one : {a l : ℕ} → a ≡ set_one (mask_at n masks 0 i) → l ≡ 1 → a ≡ live_one n masks l i
  mark_one ea el = ea ∙ ap (λ (x : ℕ). live_one n masks x i) (sym el)

  pub mark_more : {a b l : ℕ} (k : ℕ) → a ≡ live_one n masks k i → b ≡ set_one (mask_at n masks k i) → l ≡ suc k → a * b ≡ live_one n masks l i
  mark_more k ea eb el = ap₂ (λ (x y : ℕ). x * y) ea eb ∙ marks_both (shown_at n masks k i) (set_test (mask_at n masks k i)) ∙ ap (λ (x : ℕ). live_one n masks x i) (sym el)

  pub mark_le : {a : ℕ} (l : ℕ) → a ≡ live_one n masks l i → a ≤ 1
  mark_le l e = omega (arith, one_le (shown_at n masks l i))

-- the byte of the cell at a level above l
pub row_in : (k : ℕ) {l n i m : ℕ} → k < l → i < n → l * n ≤ m → k * n + i < m
row_in k {l} {n} {i} {m} h p q = omega (arith, mul-le-mul_right {m = suc k} {n = l} n h, suc-mul k n)

-- ---- the cells from i on

pub passing_next : (t : ℕ → Bool) (i n : ℕ) → i < n
    → passing t (from i (n - i)) ≡ pick (t i) (i ∷ passing t (from (i + 1) (n - (i + 1)))) (passing t (from (i + 1) (n - (i + 1))))
passing_next t i n h =
    let e : n - i ≡ suc (n - suc i) = omega arith in
    ap (λ (k : ℕ). passing t (from i k)) e
    ∙ ap (λ (j : ℕ). pick (t i) (i ∷ passing t (from j (n - j))) (passing t (from j (n - j)))) (sym (add-one i))

module _ (n : ℕ) (masks : List ℕ) (l : ℕ) where
  pub live_next : (i : ℕ) → i < n → length (live_from n masks l i) ≡ live_one n masks l i + length (live_from n masks l (i + 1))
  live_next i h = ap length (passing_next (shown_at n masks l) i n h) ∙ go (shown_at n masks l i) (live_from n masks l (i + 1))
    where
      go : (b : Bool) (r : List ℕ) → length (pick b (i ∷ r) r) ≡ pick b 1 0 + length r
      go true r = omega arith
      go false r = omega arith

  pub live_end : (i : ℕ) → n ≤ i → length (live_from n masks l i) ≡ 0
  live_end i h = ap length (passing_end (shown_at n masks l) i n h)

-- ---- level 0 counts every cell, and level 1 those that are set in the first mask

pub count_all : (n : ℕ) (masks : List ℕ) {l : ℕ} → l ≡ 0 → n ≡ length (live_at n masks l)
count_all n masks e = sym (ap (λ (x : ℕ). length (live_at n masks x)) e ∙ ap length (live_all n masks) ∙ length_from_lem 0 n)

count-from : (masks : List ℕ) (a n : ℕ) → a + n ≤ length masks → length (passing (λ i. set_test (get_or masks i 0)) (from a n)) ≡ count_set (take n (drop a masks))
count-from masks a zero h = refl
count-from masks a (suc n) h =
    sym (ap (λ (s : List ℕ). count_set (take (suc n) s)) (drop-cons masks a 0 (omega arith)) ∙ sym (go (get_or masks a 0) (count-from masks (suc a) n (omega arith))))
  where
    go : (m : ℕ) → length (passing (λ i. set_test (get_or masks i 0)) (from (suc a) n)) ≡ count_set (take n (drop (suc a) masks))
        → length (pick (set_test m) (a ∷ passing (λ i. set_test (get_or masks i 0)) (from (suc a) n)) (passing (λ i. set_test (get_or masks i 0)) (from (suc a) n)))
        ≡ count_set (m ∷ take n (drop (suc a) masks))
    go zero e = e
    go (suc zero) e = ap suc e
    go (suc (suc m)) e = e

pub count_one : (n : ℕ) (masks : List ℕ) {l : ℕ} → l ≡ 1 → l * n ≤ length masks → count_set (take (n - 0) (drop 0 masks)) ≡ length (live_at n masks l)
count_one n masks e h =
    ap (λ (m : ℕ). count_set (take m masks)) (sub-zero n)
    ∙ sym
    (ap (λ (x : ℕ). length (live_at n masks x)) e
    ∙ ap length
    (passing_cong (shown_at n masks 1) (λ i. set_test (get_or masks i 0)) (from 0 n)
    (All-of (λ i. set_test (get_or masks (0 * n + i) 0) ≡ set_test (get_or masks i 0)) (λ i. ap (λ (x : ℕ). set_test (get_or masks x 0)) (ap (λ (x : ℕ). x + i) (zero-mul n) ∙ zero-add i)) (from 0 n)))
    ∙ count-from masks 0 n (omega (arith, ap (λ (x : ℕ). x * n) e, one-mul n)))
