-- docs/SPEC.md, S1.8: the offsets of ragged values.
-- Assumes nothing.
use Rattle.std.specs.Prelude.{ℕ, ◌+◌, ◌-◌, ◌≤◌, ◌≡◌, Bool, true, ◌&&◌, List, [], ◌∷◌, length, take, drop, leb, eqb}
use Rattle.array.specs.Cells.{Value}

-- the last of the offsets, after a
abbrev pub last_from : ℕ → List ℕ → ℕ
last_from a [] = a
last_from a (b ∷ bs) = last_from b bs

abbrev pub last : List ℕ → ℕ
last [] = 0
last (a ∷ bs) = last_from a bs

-- offsets that begin at 0 and never decrease, and the test of it
abbrev pub RisingFrom : ℕ → List ℕ → Type 0
RisingFrom a [] = Unit {0}
RisingFrom a (b ∷ bs) = (a ≤ b) × RisingFrom b bs

abbrev pub Rising : List ℕ → Type 0
Rising [] = Unit {0}
Rising (a ∷ bs) = (a ≡ 0) × RisingFrom a bs

abbrev pub rising_from_test : ℕ → List ℕ → Bool
rising_from_test a [] = true
rising_from_test a (b ∷ bs) = leb a b && rising_from_test b bs

abbrev pub rising_test : List ℕ → Bool
rising_test [] = true
rising_test (a ∷ bs) = eqb a 0 && rising_from_test a bs

-- where each value ends, the first beginning at a
abbrev pub ends : ℕ → List Value → List ℕ
ends a [] = []
ends a (v ∷ vs) = (a + length v) ∷ ends (a + length v) vs

-- the offsets of values that lie end to end from offset 0
abbrev pub offsets_of : List Value → List ℕ
offsets_of vs = 0 ∷ ends 0 vs

-- the values between the offsets
abbrev pub slices_from : ℕ → List ℕ → List ℕ → List Value
slices_from a [] s = []
slices_from a (b ∷ bs) s = take (b - a) (drop a s) ∷ slices_from b bs s

abbrev pub slices : List ℕ → List ℕ → List Value
slices [] s = []
slices (a ∷ bs) s = slices_from a bs s
