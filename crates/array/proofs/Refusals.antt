-- Each refusal exactly when it is due: a law for each way in which a call is put together, and this layer's calls by them.
-- Assumes nothing.
use mathlib.Core.Path.{◌≡◌, refl, subst}
use mathlib.Core.Bool.{Bool, true, false, false≢true}
use mathlib.Core.List.{List, [], ◌∷◌, ◌++◌}
use Prim.Native.Nat.{ℕ, ◌≤◌}
use native.Mathlib.Omega.{arith}
use lib.ListN.{length}
use lib.Dec.{leb, eqb}
use borrow.Author.Tests.{le-leb, leb-true, eq-eqb, eqb-true}
use Rattle.array.specs.Answer.{Answer, gives, unless, and_then, map_answer}
use Rattle.array.specs.Limits.{most_bytes}
use Rattle.array.specs.Kind.{Kind, fixed, little}
use Rattle.array.specs.Content.{Content, ArrayOk, unless_kept}
use Rattle.array.specs.Calls.{reverse_answer, endianness_reversed, cells_answer, subset_cells}
use Rattle.array.specs.Refusals.{Rule, InOrder, success, broken, kept, Given, Refusals}
use Rattle.array.proofs.Rules.{form_test_lem, form_ok, shape_test_lem, shape_ok, numbers_test_lem, numbers_ok, array_test_lem, array_ok, size_test_lem, size_ok}

-- ---- how a call is put together

-- a test that passes just where the rule holds
pub stage : {A : Type 0} {P : Type 0} {t : Bool} {rs : List Rule} {a : Answer A} (k : ℕ) → (P → t ≡ true) → (t ≡ true → P) → InOrder rs a
    → InOrder ((k, P) ∷ rs) (unless t k a)
stage {A} {P} {t} {rs} {a} k test ok h = go t test ok
  where
    go : (b : Bool) → (P → b ≡ true) → (b ≡ true → P) → InOrder ((k, P) ∷ rs) (unless b k a)
    go true test ok = kept (ok refl) h
    go false test ok = broken (λ p. false≢true (test p))

pub stage_le : {A : Type 0} {rs : List Rule} {a : Answer A} (k m n : ℕ) → InOrder rs a → InOrder ((k, m ≤ n) ∷ rs) (unless (leb m n) k a)
stage_le k m n h = stage k (le-leb m n) (leb-true m n) h

pub stage_eq : {A : Type 0} {rs : List Rule} {a : Answer A} (k m n : ℕ) → InOrder rs a → InOrder ((k, m ≡ n) ∷ rs) (unless (eqb m n) k a)
stage_eq k m n h = stage k (eq-eqb m n) (eqb-true m n) h

-- a test of what an earlier step gave
pub stage_given : {A B : Type 0} {Q : B → Type 0} {x : B} {b : Answer B} {t : Bool} {rs : List Rule} {a : Answer A} (k : ℕ) → b ≡ gives x
    → (Q x → t ≡ true) → (t ≡ true → Q x) → InOrder rs a → InOrder ((k, Given b Q) ∷ rs) (unless t k a)
stage_given {Q = Q} {x = x} k e test ok h = stage k (λ g. test (g.keeps x e)) (λ p. record { keeps = λ y q. let same : x ≡ y = cc in subst Q same (ok p) }) h

-- an array that is handed over
pub stage_array : {A : Type 0} {rs : List Rule} {a : Answer A} (k : Kind) (n : ℕ) (c : Content) → InOrder rs a
    → InOrder ((4, ArrayOk k n c) ∷ (5, length c.values ≤ most_bytes) ∷ rs) (unless_kept k n c a)
stage_array k n c h = stage 4 (array_test_lem k n c) (array_ok k n c) (stage 5 (size_test_lem (length c.values)) (size_ok (length c.values)) h)

-- one step, and then what follows it
pub and_then_lem : {A B : Type 0} {rs ss : List Rule} {a : Answer A} {f : A → Answer B} → InOrder rs a → ((x : A) → a ≡ gives x → InOrder ss (f x))
    → InOrder (rs ++ ss) (and_then a f)
and_then_lem (success {x}) next = next x refl
and_then_lem (broken no-P) next = broken no-P
and_then_lem (kept p h) next = kept p (and_then_lem h next)

-- of what was given only f
pub named : {A B : Type 0} {rs : List Rule} {a : Answer A} (f : A → B) → InOrder rs a → InOrder rs (map_answer f a)
named f success = success
named f (broken no-P) = broken no-P
named f (kept p h) = kept p (named f h)

-- ---- where something is given, every rule is kept

abbrev pub Kept : List Rule → Type 0
Kept [] = Unit {0}
Kept (r ∷ rs) = r.1 × Kept rs

pub all_kept : {A : Type 0} {rs : List Rule} {a : Answer A} {x : A} → InOrder rs a → a ≡ gives x → Kept rs
all_kept success e = tt
all_kept (broken no-P) e = absurd (let never : ◌≡◌ {A = ℕ} 0 1 = cc in omega arith)
all_kept (kept p h) e = (p, all_kept h e)

-- ---- the calls of this layer

pub refusals : Refusals
unfolding endianness_reversed reverse_answer subset_cells cells_answer
refusals = record {
  reverse_endianness = λ k s. stage 1 (form_test_lem (fixed k little)) (form_ok (fixed k little)) success;
  subset_cells_call = λ shape ns out. named length
      (stage 2 (shape_test_lem shape) (shape_ok shape)
      (stage 3 (numbers_test_lem shape ns) (numbers_ok shape ns)
      (stage_le 6 _ _ success)));
}
