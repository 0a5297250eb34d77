-- Offsets: those of values that lie end to end, and the values between offsets.
-- Assumes nothing.
use mathlib.Core.Path.{◌≡◌, refl, sym, ap, ap₂, ◌∙◌}
use Prim.Native.Nat.{ℕ, zero, suc, ◌+◌, ◌-◌, ◌<◌, ◌≤◌}
use native.Mathlib.Nat.{add-sub_cancel_left, add-sub_of_le, add_assoc, min-le_left, le_refl, le_trans}
use native.Mathlib.Omega.{arith}
use mathlib.Core.List.{List, [], ◌∷◌, ◌++◌}
use lib.ListN.{length, get_or, take, drop, length-append, length-take, length-drop, take-append-drop, drop_of_length-le}
use lib.Seq.{take_at, drop_at, drop-drop, length-take-le}
use Rattle.array.specs.Lists.{joined, All}
use Rattle.array.specs.Cells.{Value}
use Rattle.array.specs.Offsets.{last_from, last, RisingFrom, Rising, ends, offsets_of, slices_from, slices}

-- ---- offsets of values that lie end to end

pub length-ends : (a : ℕ) (vs : List Value) → length (ends a vs) ≡ length vs
length-ends a [] = refl
length-ends a (v ∷ vs) = ap suc (length-ends (a + length v) vs)

pub rising_ends : (a : ℕ) (vs : List Value) → RisingFrom a (ends a vs)
rising_ends a [] = tt
rising_ends a (v ∷ vs) = (omega arith, rising_ends (a + length v) vs)

pub last-ends : (a : ℕ) (vs : List Value) → last_from a (ends a vs) ≡ a + length (joined vs)
last-ends a [] = omega arith
last-ends a (v ∷ vs) = last-ends (a + length v) vs ∙ add_assoc a (length v) (length (joined vs)) ∙ ap (λ (n : ℕ). a + n) (sym (length-append v (joined vs)))

pub slices-ends : (a : ℕ) (vs : List Value) (s : List ℕ) → drop a s ≡ joined vs → slices_from a (ends a vs) s ≡ vs
slices-ends a [] s e = refl
slices-ends a (v ∷ vs) s e =
    ap₂ (λ (x : Value) (r : List Value). x ∷ r)
    (ap₂ (λ (n : ℕ) (t : List ℕ). take n t) (add-sub_cancel_left a (length v)) e ∙ take_at v (joined vs) (length v) refl)
    (slices-ends (a + length v) vs s (sym (drop-drop (length v) a s) ∙ ap (drop (length v)) e ∙ drop_at v (joined vs) (length v) refl))

pub slices_offsets : (vs : List Value) → slices (offsets_of vs) (joined vs) ≡ vs
slices_offsets vs = slices-ends 0 vs (joined vs) refl

-- offsets that never fall are at most the last
pub rising_le : (a : ℕ) (os : List ℕ) → RisingFrom a os → a ≤ last_from a os
rising_le a [] p = le_refl a
rising_le a (b ∷ bs) p = le_trans p.0 (rising_le b bs p.1)

rising_all : (m a : ℕ) (os : List ℕ) → RisingFrom a os → last_from a os < m → All (λ o. o < m) os
rising_all m a [] p h = tt
rising_all m a (b ∷ bs) p h = (omega (arith, rising_le b bs p.1), rising_all m b bs p.1 h)

pub rising_below : (m : ℕ) (os : List ℕ) → Rising os → last os < m → All (λ o. o < m) os
rising_below m [] p h = tt
rising_below m (a ∷ bs) p h = (omega (arith, rising_le a bs p.1), rising_all m a bs p.1 h)

-- the last of n + 1 offsets is the one at n
pub last_at : (os : List ℕ) (n : ℕ) → length os ≡ suc n → last os ≡ get_or os n 0
last_at [] n h = absurd (omega arith)
last_at (a ∷ os) n h = go os a n (omega arith)
  where
    go : (xs : List ℕ) (a m : ℕ) → length xs ≡ m → last_from a xs ≡ get_or (a ∷ xs) m 0
    go [] a zero h = refl
    go [] a (suc m) h = absurd (omega arith)
    go (x ∷ xs) a zero h = absurd (omega arith)
    go (x ∷ xs) a (suc m) h = go xs x m (omega arith)

-- ---- the values between offsets

pub length-slices_from : (a : ℕ) (os s : List ℕ) → length (slices_from a os s) ≡ length os
length-slices_from a [] s = refl
length-slices_from a (b ∷ bs) s = ap suc (length-slices_from b bs s)

pub total_slices_from : (a : ℕ) (os s : List ℕ) → RisingFrom a os → a + length (joined (slices_from a os s)) ≤ last_from a os
total_slices_from a [] s p = omega arith
total_slices_from a (b ∷ bs) s p =
    omega (
      arith,
      length-append (take (b - a) (drop a s)) (joined (slices_from b bs s)),
      length-take (b - a) (drop a s),
      min-le_left (b - a) (length (drop a s)),
      total_slices_from b bs s p.1,
      p.0,
    )

pub joined-slices : (a : ℕ) (os s : List ℕ) → RisingFrom a os → last_from a os ≡ length s → joined (slices_from a os s) ≡ drop a s
joined-slices a [] s p e = sym (drop_of_length-le s {i = a} (omega arith))
joined-slices a (b ∷ bs) s p e =
    let h : a ≤ b = p.0 in
    ap (λ (r : List ℕ). take (b - a) (drop a s) ++ r)
    (joined-slices b bs s p.1 e ∙ ap (λ (k : ℕ). drop k s) (sym (add-sub_of_le h)) ∙ sym (drop-drop (b - a) a s))
    ∙ take-append-drop (b - a) (drop a s)

pub ends-slices : (a : ℕ) (os s : List ℕ) → RisingFrom a os → last_from a os ≡ length s → ends a (slices_from a os s) ≡ os
ends-slices a [] s p e = refl
ends-slices a (b ∷ bs) s p e =
    let h : a ≤ b = p.0 in
    let l : a + length (take (b - a) (drop a s)) ≡ b =
    ap (λ (k : ℕ). a + k) (length-take-le (b - a) (drop a s) (omega (arith, length-drop a s, rising_le b bs p.1))) ∙ add-sub_of_le h in
    ap₂ (λ (x : ℕ) (r : List ℕ). x ∷ r) l (ap (λ (k : ℕ). ends k (slices_from b bs s)) l ∙ ends-slices b bs s p.1 e)

-- offsets that begin at 0 and end with the bytes: the values between them are these bytes, and have these offsets
module _ (n : ℕ) where
  pub joined-slices_all : (os s : List ℕ) → length os ≡ suc n → Rising os → last os ≡ length s → joined (slices os s) ≡ s
  joined-slices_all [] s e r l = absurd (omega arith)
  joined-slices_all (zero ∷ bs) s e r l = joined-slices 0 bs s r.1 l
  joined-slices_all (suc a ∷ bs) s e r l = absurd (omega (arith, r.0))

  pub offsets_slices_all : (os s : List ℕ) → length os ≡ suc n → Rising os → last os ≡ length s → offsets_of (slices os s) ≡ os
  offsets_slices_all [] s e r l = absurd (omega arith)
  offsets_slices_all (zero ∷ bs) s e r l = ap (λ (x : List ℕ). 0 ∷ x) (ends-slices 0 bs s r.1 l)
  offsets_slices_all (suc a ∷ bs) s e r l = absurd (omega (arith, r.0))
