-- What is carried: the rule and its test, and both by the number of value bytes alone, which is the last offset.
-- Assumes nothing.
use mathlib.Core.Path.{◌≡◌, refl, sym, ◌∙◌}
use Prim.Native.Nat.{ℕ, ◌^◌, ◌<◌, ◌≤◌}
use native.Mathlib.Nat.{le_refl}
use native.Mathlib.Omega.{arith}
use mathlib.Core.Bool.{Bool, true, false, false≢true}
use mathlib.Core.List.{List, [], ◌∷◌}
use lib.ListN.{length, length-append}
use lib.Dec.{ltb}
use borrow.Author.Tests.{lt-ltb, ltb-true, ltb-false}
use Rattle.array.specs.Lists.{joined, All}
use Rattle.array.specs.Kind.{Place, Form, fixed, ragged}
use Rattle.array.specs.Offsets.{last_from, ends, offsets_of}
use Rattle.array.specs.Cells.{Value}
use Rattle.array.proofs.Rules.{every_all, all_every}
use Rattle.array.proofs.Offsets.{rising_ends, last-ends, rising_below}
use Rattle.codec.specs.Carried.{Carried, carried_test, FieldsFit, fields_test}

pub carried_test_lem : (f : Form) (vs : List Value) → Carried f vs → carried_test f vs ≡ true
carried_test_lem (fixed k o) vs p = refl
carried_test_lem (ragged w q) vs p = every_all (λ o. o < 256 ^ w) (λ o. ltb o (256 ^ w)) (λ o. lt-ltb o (256 ^ w)) (offsets_of vs) p

pub carried_ok : (f : Form) (vs : List Value) → carried_test f vs ≡ true → Carried f vs
carried_ok (fixed k o) vs e = tt
carried_ok (ragged w q) vs e = all_every (λ o. o < 256 ^ w) (λ o. ltb o (256 ^ w)) (λ o. ltb-true o (256 ^ w)) (offsets_of vs) e

pub fields_test_lem : (vs : List Value) → FieldsFit vs → fields_test vs ≡ true
fields_test_lem vs p = every_all (λ v. length v < 256 ^ 4) (λ v. ltb (length v) (256 ^ 4)) (λ v. lt-ltb (length v) (256 ^ 4)) vs p

pub fields_ok : (vs : List Value) → fields_test vs ≡ true → FieldsFit vs
fields_ok vs e = all_every (λ v. length v < 256 ^ 4) (λ v. ltb (length v) (256 ^ 4)) (λ v. ltb-true (length v) (256 ^ 4)) vs e

-- ---- by the number of value bytes

abbrev pub Below : Form → ℕ → Type 0
Below (fixed k o) n = Unit {0}
Below (ragged w p) n = n < 256 ^ w

pub below_carried : (f : Form) (vs : List Value) (n : ℕ) → Below f n → length (joined vs) ≤ n → Carried f vs
below_carried (fixed k o) vs n b h = tt
below_carried (ragged w p) vs n b h = rising_below (256 ^ w) (offsets_of vs) (refl, rising_ends 0 vs) (omega (arith, last-ends 0 vs))

-- a value is no longer than all of them
pub below_fits : (m : ℕ) (vs : List Value) → length (joined vs) < m → All (λ v. length v < m) vs
below_fits m [] h = tt
below_fits m (v ∷ vs) h = (omega (arith, length-append v (joined vs)), below_fits m vs (omega (arith, length-append v (joined vs))))

pub last_below : (m a : ℕ) (os : List ℕ) → a < m → All (λ o. o < m) os → last_from a os < m
last_below m a [] h p = h
last_below m a (b ∷ os) h p = last_below m b os p.0 p.1

-- 20 is met where the values that are written have too many bytes in all
pub carried_sum : (w : ℕ) (p : Place) (vs : List Value) → carried_test (ragged w p) vs ≡ ltb (length (joined vs)) (256 ^ w)
carried_sum w p vs = go (ltb (length (joined vs)) (256 ^ w)) refl (carried_test (ragged w p) vs) refl
  where
    go : (b : Bool) → ltb (length (joined vs)) (256 ^ w) ≡ b → (c : Bool) → carried_test (ragged w p) vs ≡ c → c ≡ b
    go true e true q = refl
    go false e false q = refl
    go true e false q =
        let is : carried_test (ragged w p) vs ≡ true =
        carried_test_lem (ragged w p) vs (below_carried (ragged w p) vs (length (joined vs)) (ltb-true (length (joined vs)) (256 ^ w) e) (le_refl (length (joined vs)))) in
        absurd (false≢true (sym q ∙ is))
    go false e true q =
        let a : All (λ o. o < 256 ^ w) (offsets_of vs) = carried_ok (ragged w p) vs q in
        absurd (omega (arith, last_below (256 ^ w) 0 (ends 0 vs) a.0 a.1, last-ends 0 vs, ltb-false (length (joined vs)) (256 ^ w) e))
