-- A test of every number from a on, k of them, walked: what was asked so far and what is left make the whole.
-- Assumes nothing.
use mathlib.Core.Path.{◌≡◌, refl, sym, ap, ◌∙◌}
use mathlib.Core.Bool.{Bool, true, false, ◌&&◌}
use Prim.Native.Nat.{ℕ, suc, ◌+◌, ◌-◌, ◌≤◌, ◌<◌}
use native.Mathlib.Omega.{arith}
use Rattle.array.specs.Lists.{from, every}
use Rattle.array.proofs.Geometry.{All-from}
use Rattle.array.proofs.Rules.{every_all, all_every}
use Rattle.valid.proofs.CheckLaws.{and_assoc}
use Rattle.table.proofs.Each.{from_all}

-- two tests that pass for each other's sake are the same
pub same_test : (a b : Bool) → (a ≡ true → b ≡ true) → (b ≡ true → a ≡ true) → a ≡ b
same_test true b f g = sym (f refl)
same_test false true f g = g refl
same_test false false f g = refl

-- ---- a rule for a run of numbers

module _ (f : ℕ → Bool) (a n : ℕ) where
  pub every-from : ((i : ℕ) → a ≤ i → i < a + n → f i ≡ true) → every f (from a n) ≡ true
  every-from h = every_all (λ i. f i ≡ true) f (λ i e. e) (from a n) (All-from (λ i. f i ≡ true) a n h)

  pub every_at : every f (from a n) ≡ true → (i : ℕ) → a ≤ i → i < a + n → f i ≡ true
  every_at e = from_all (λ i. f i ≡ true) a n (all_every (λ i. f i ≡ true) f (λ i q. q) (from a n) e)

-- ---- the walk

pub record Walk (f : ℕ → Bool) (a k : ℕ) (ok : Bool) (i : ℕ) : Type 0 where
  pub from_on : a ≤ i
  pub whole : ok && every f (from i (a + k - i)) ≡ every f (from a k)

-- what is left begins with the number at hand
walk_next : (f : ℕ → Bool) (e i : ℕ) → i < e → every f (from i (e - i)) ≡ f i && every f (from (i + 1) (e - (i + 1)))
walk_next f e i h =
    let n : e - i ≡ suc (e - (i + 1)) = omega arith in
    let s : suc i ≡ i + 1 = omega arith in
    ap (λ (m : ℕ). every f (from i m)) n ∙ ap (λ (j : ℕ). f i && every f (from j (e - (i + 1)))) s

module _ {f : ℕ → Bool} {a k : ℕ} {ok : Bool} {i : ℕ} (w : Walk f a k ok i) where
  pub walk_more : i < a + k → {r : Bool} → r ≡ ok && f i → Walk f a k r (i + 1)
  walk_more h {r} e =
      let left : Bool = every f (from (i + 1) (a + k - (i + 1))) in
      record {
        from_on = omega (arith, w.from_on);
        whole = ap (λ (b : Bool). b && left) e ∙ sym (and_assoc ok (f i) left) ∙ ap (λ (b : Bool). ok && b) (sym (walk_next f (a + k) i h)) ∙ w.whole;
      }
