-- Runs of cells that a level counts, and the loops that go by them.
-- Assumes nothing.
use mathlib.Core.Path.{◌≡◌, refl, sym, ap, ap₂, ◌∙◌}
use Prim.Native.Nat.{ℕ, zero, suc, ◌+◌, ◌-◌, ◌<◌, ◌≤◌}
use native.Mathlib.Nat.{sub-zero, zero-sub, le_refl}
use native.Mathlib.Numerals.{add-one}
use native.Mathlib.Omega.{arith}
use mathlib.Core.Bool.{Bool, true, false}
use mathlib.Core.List.{List, [], ◌∷◌, ◌++◌}
use lib.ListN.{length}
use Rattle.array.specs.Lists.{pick, from, passing, All}
use Rattle.array.specs.Places.{shown_at}
use Rattle.array.proofs.Lists.{All-of, length_from_lem}
use Rattle.array.proofs.Geometry.{passing_all}
use Rattle.live_cells.specs.Live.{live_at, run_of}

-- ---- one cell

module _ (n : ℕ) (masks : List ℕ) (i : ℕ) where
  -- no level
  pub live_none : (l : ℕ) → l ≡ 0 → shown_at n masks l i ≡ true
  live_none zero h = refl
  live_none (suc l) h = absurd (omega arith)

-- ---- runs

module _ (t : ℕ → Bool) where
  pub run_le : (i m : ℕ) → run_of t i m ≤ m
  run_le i zero = le_refl 0
  run_le i (suc m) = go (t i) (run_le (suc i) m)
    where
      go : (b : Bool) → run_of t (suc i) m ≤ m → pick b (suc (run_of t (suc i) m)) 0 ≤ suc m
      go true h = omega arith
      go false h = omega arith

  -- a run ends, or goes on by one
  pub run_stops : (i n : ℕ) → i < n → t i ≡ false → run_of t i (n - i) ≡ 0
  run_stops i n h e =
      let q : n - i ≡ suc (n - suc i) = omega arith in
      ap (run_of t i) q ∙ ap (λ (b : Bool). pick b (suc (run_of t (suc i) (n - suc i))) 0) e

  pub run_goes : (i n : ℕ) → i < n → t i ≡ true → run_of t i (n - i) ≡ 1 + run_of t (i + 1) (n - (i + 1))
  run_goes i n h e =
      let q : n - i ≡ suc (n - suc i) = omega arith in
      ap (run_of t i) q ∙ ap (λ (b : Bool). pick b (suc (run_of t (suc i) (n - suc i))) 0) e
      ∙ ap (λ (j : ℕ). suc (run_of t j (n - j))) (sym (add-one i)) ∙ omega arith

  pub run_none : (i n : ℕ) → n ≤ i → run_of t i (n - i) ≡ 0
  run_none i n h = let q : n - i ≡ 0 = omega arith in ap (run_of t i) q

  pub run_all : ((i : ℕ) → t i ≡ true) → (i m : ℕ) → run_of t i m ≡ m
  run_all e i zero = refl
  run_all e i (suc m) = ap (λ (b : Bool). pick b (suc (run_of t (suc i) m)) 0) (e i) ∙ ap suc (run_all e (suc i) m)

  -- what passes: the run, and what passes behind the cell that ends it
  run_split : (i m : ℕ) → passing t (from i m) ≡ from i (run_of t i m) ++ passing t (from (i + (run_of t i m + 1)) (m - (run_of t i m + 1)))
  run_split i zero = ap (λ (j : ℕ). passing t (from (i + (0 + 1)) j)) (sym (zero-sub (0 + 1)))
  run_split i (suc m) = go (t i) (run_split (suc i) m)
    where
      go : (b : Bool) → passing t (from (suc i) m) ≡ from (suc i) (run_of t (suc i) m) ++ passing t (from (suc i + (run_of t (suc i) m + 1)) (m - (run_of t (suc i) m + 1)))
          → pick b (i ∷ passing t (from (suc i) m)) (passing t (from (suc i) m))
          ≡ from i (pick b (suc (run_of t (suc i) m)) 0) ++ passing t (from (i + (pick b (suc (run_of t (suc i) m)) 0 + 1)) (suc m - (pick b (suc (run_of t (suc i) m)) 0 + 1)))
      go true e =
          let r : ℕ = run_of t (suc i) m in
          let p : suc i + (r + 1) ≡ i + (suc r + 1) = omega arith in
          let q : m - (r + 1) ≡ suc m - (suc r + 1) = omega arith in
          ap (λ (l : List ℕ). i ∷ l) (e ∙ ap₂ (λ (a b : ℕ). from (suc i) r ++ passing t (from a b)) p q)
      go false e =
          let p : suc i ≡ i + (0 + 1) = omega arith in
          let q : m ≡ suc m - (0 + 1) = omega arith in
          ap₂ (λ (a b : ℕ). passing t (from a b)) p q

  -- the same from a place of n cells
  pub passing_run : (i n : ℕ) {r : ℕ} → r ≡ run_of t i (n - i) → passing t (from i (n - i)) ≡ from i r ++ passing t (from (i + (r + 1)) (n - (i + (r + 1))))
  passing_run i n {r} e =
      let q : n - i - (r + 1) ≡ n - (i + (r + 1)) = omega arith in
      run_split i (n - i) ∙ ap (λ (k : ℕ). from i k ++ passing t (from (i + (k + 1)) (n - i - (k + 1)))) (sym e)
      ∙ ap (λ (j : ℕ). from i r ++ passing t (from (i + (r + 1)) j)) q

  pub passing_end : (i n : ℕ) → n ≤ i → passing t (from i (n - i)) ≡ []
  passing_end i n h = let q : n - i ≡ 0 = omega arith in ap (λ (k : ℕ). passing t (from i k)) q

  pub passing_start : (n : ℕ) → passing t (from 0 (n - 0)) ≡ passing t (from 0 n)
  passing_start n = ap (λ (k : ℕ). passing t (from 0 k)) (sub-zero n)

  pub passing-le : (xs : List ℕ) → length (passing t xs) ≤ length xs
  passing-le [] = le_refl 0
  passing-le (x ∷ xs) = go (t x) (passing-le xs)
    where
      go : (b : Bool) → length (passing t xs) ≤ length xs → length (pick b (x ∷ passing t xs) (passing t xs)) ≤ suc (length xs)
      go true h = omega arith
      go false h = omega arith

  pub All-passing : (P : ℕ → Type 0) (xs : List ℕ) → All P xs → All P (passing t xs)
  All-passing P [] p = tt
  All-passing P (x ∷ xs) p = go (t x) p.0 (All-passing P xs p.1)
    where
      go : (b : Bool) → P x → All P (passing t xs) → All P (pick b (x ∷ passing t xs) (passing t xs))
      go true q r = (q, r)
      go false q r = r

-- where as many pass as there are, all do
pub all_counted : (t : ℕ → Bool) {n : ℕ} → length (passing t (from 0 n)) ≡ n → passing t (from 0 n) ≡ from 0 n
all_counted t {n} e = go (from 0 n) (e ∙ sym (length_from_lem 0 n))
  where
    go : (xs : List ℕ) → length (passing t xs) ≡ length xs → passing t xs ≡ xs
    go [] e = refl
    go (x ∷ xs) e = one (t x) e (go xs)
      where
        one : (b : Bool) → length (pick b (x ∷ passing t xs) (passing t xs)) ≡ suc (length xs) → (length (passing t xs) ≡ length xs → passing t xs ≡ xs)
            → pick b (x ∷ passing t xs) (passing t xs) ≡ x ∷ xs
        one true q ih = ap (λ (l : List ℕ). x ∷ l) (ih (omega arith))
        one false q ih = absurd (omega (arith, passing-le t xs))

-- a level counts no more cells than there are
pub live-le : (n : ℕ) (masks : List ℕ) (l : ℕ) → length (live_at n masks l) ≤ n
live-le n masks l = omega (arith, passing-le (shown_at n masks l) (from 0 n), length_from_lem 0 n)

-- level 0 counts every cell
pub live_all : (n : ℕ) (masks : List ℕ) → live_at n masks 0 ≡ from 0 n
live_all n masks = passing_all (λ i. true) (from 0 n) (All-of (λ i. true ≡ true) (λ i. refl) (from 0 n))
