-- The state after some draws, in one step: its factors and terms, and the lists of them.
-- Assumes nothing.
use mathlib.Core.Path.{◌≡◌, refl, sym, ap, ap₂, ◌∙◌}
use mathlib.Core.Bool.{Bool, true, ◌&&◌}
use mathlib.Core.List.{List, [], ◌∷◌}
use Prim.Native.Nat.{ℕ, zero, suc, ◌+◌, ◌*◌, ◌/◌, ◌%◌, ◌<◌}
use native.Mathlib.Nat.{zero-add, mul_comm, mul_assoc, add-mul, mod-add-div', add-mod-mod}
use native.Mathlib.Numerals.{add-one}
use native.Mathlib.Omega.{arith}
use lib.ListN.{get_or}
use lib.Dec.{eqb}
use borrow.Author.Tests.{eqb-true}
use Rattle.array.specs.Lists.{from, All, every}
use Rattle.array.proofs.Rules.{all_every, left_of_lem, right_of}
use Rattle.load.specs.Generator.{draw, draw_bytes}

abbrev pub ahead_by : ℕ → ℕ → ℕ → ℕ
ahead_by f t s = (f * s + t) % 4294967296

-- of j + 1 draws
abbrev factor : ℕ → ℕ
factor zero = 1664525
factor (suc j) = factor j * 1664525 % 4294967296

abbrev term : ℕ → ℕ
term zero = 1013904223
term (suc j) = (factor j * 1013904223 + term j) % 4294967296

-- a factor's remainder is enough
drop-mod : (u s w : ℕ) → ((u % 4294967296) * s + w) % 4294967296 ≡ (u * s + w) % 4294967296
drop-mod u s w =
    let r : ℕ = u % 4294967296 in
    let q : ℕ = u / 4294967296 in
    let whole : u * s ≡ r * s + q * 4294967296 * s = ap (λ (x : ℕ). x * s) (sym (mod-add-div' u 4294967296)) ∙ add-mul r (q * 4294967296) s in
    let times : q * 4294967296 * s ≡ q * s * 4294967296 = mul_assoc q 4294967296 s ∙ ap (λ (x : ℕ). q * x) (mul_comm 4294967296 s) ∙ sym (mul_assoc q s 4294967296) in
    omega (arith, whole, times)

compose : (f t s : ℕ) → ahead_by (f * 1664525 % 4294967296) ((f * 1013904223 + t) % 4294967296) s ≡ ahead_by f t (ahead_by 1664525 1013904223 s)
compose f t s =
    let x : ℕ = 1664525 * s + 1013904223 in
    let w : ℕ = f * 1013904223 + t in
    let left : f * 1664525 * s ≡ 1664525 * (f * s) = ap (λ (y : ℕ). y * s) (mul_comm f 1664525) ∙ mul_assoc 1664525 f s in
    let right : x * f ≡ 1664525 * (f * s) + 1013904223 * f =
    add-mul (1664525 * s) 1013904223 f ∙ ap (λ (y : ℕ). y + 1013904223 * f) (mul_assoc 1664525 s f ∙ ap (λ (y : ℕ). 1664525 * y) (mul_comm s f)) in
    let same : f * 1664525 * s + w ≡ x * f + t = omega (arith, left, right) in
    drop-mod (f * 1664525) s (w % 4294967296) ∙ add-mod-mod (f * 1664525 * s) w 4294967296 ∙ ap (λ (y : ℕ). y % 4294967296) same
    ∙ sym (drop-mod x f t) ∙ ap (λ (y : ℕ). (y + t) % 4294967296) (mul_comm (x % 4294967296) f)

pub jump : (j s : ℕ) → ahead_by (factor j) (term j) s ≡ (draw_bytes (suc j) s).state
unfolding draw draw_bytes
jump zero s = refl
jump (suc j) s = compose (factor j) (term j) s ∙ jump j (draw s).state

-- ---- the lists

abbrev pub factors : List ℕ
factors =
    1664525 ∷ 389569705 ∷ 2940799637 ∷ 158984081 ∷ 2862450781 ∷ 3211393721 ∷ 1851289957 ∷ 3934847009 ∷ 2184914861 ∷ 246739401 ∷ 1948736821 ∷ 2941245873 ∷
    4195587069 ∷ 4088025561 ∷ 980655621 ∷ 2001863745 ∷ []

abbrev terms : List ℕ
terms =
    1013904223 ∷ 1196435762 ∷ 3519870697 ∷ 2868466484 ∷ 1649599747 ∷ 2670642822 ∷ 1476291629 ∷ 2748932008 ∷ 2180890343 ∷ 2498801434 ∷ 3421909937 ∷
    3167820124 ∷ 2636375307 ∷ 3801544430 ∷ 28987765 ∷ 2210837584 ∷ []

record Entry (j : ℕ) : Type 0 where
  pub of_factor : get_or factors j 0 ≡ factor j
  pub of_term : get_or terms j 0 ≡ term j

right : ℕ → Bool
right j = eqb (get_or factors j 0) (factor j) && eqb (get_or terms j 0) (term j)

-- the test of all entries
tested : every right (from 0 16) ≡ true
unfolding right
tested = refl

entry : (j : ℕ) → right j ≡ true → Entry j
unfolding right
entry j e =
    let a : Bool = eqb (get_or factors j 0) (factor j) in
    let b : Bool = eqb (get_or terms j 0) (term j) in
    record { of_factor = eqb-true (get_or factors j 0) (factor j) (left_of_lem a b e); of_term = eqb-true (get_or terms j 0) (term j) (right_of a b e) }

all_from : (P : ℕ → Type 0) (a n : ℕ) → All P (from a n) → (i : ℕ) → i < n → P (a + i)
all_from P a zero p i h = absurd (omega arith)
all_from P a (suc n) p zero h = rw (let e : a + 0 ≡ a = omega arith in e) p.0
all_from P a (suc n) p (suc i) h = rw (let e : a + suc i ≡ suc a + i = omega arith in e) (all_from P (suc a) n p.1 i (omega arith))

at : (j : ℕ) → j < 16 → Entry j
at j h = rw zero-add at (all_from Entry 0 16 (all_every Entry right entry (from 0 16) tested) j h)

pub listed : (j s : ℕ) → j < 16 → ahead_by (get_or factors j 0) (get_or terms j 0) s ≡ (draw_bytes (j + 1) s).state
listed j s h =
    ap₂ (λ (f t : ℕ). ahead_by f t s) (at j h).of_factor (at j h).of_term ∙ jump j s ∙ ap (λ (i : ℕ). (draw_bytes i s).state) (sym (add-one j))
