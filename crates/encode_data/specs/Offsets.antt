-- Redundant by the law offsets_fit in encode_values/proofs/Forms.antt: what the writing of ragged values asks of their offsets (S1.8).
-- Assumes nothing.
use Rattle.std.specs.Prelude.{ℕ, suc, ◌≡◌, List, [], ◌∷◌, length}
use Rattle.std.specs.Coded.{le_prop, Unit-prop, ×_prop}
use native.Mathlib.Nat.{ℕ_set}
use Rattle.array.specs.Offsets.{Rising, RisingFrom}

-- offsets of n cells
pub record Offsets (n : ℕ) (os : List ℕ) : Type 0 where
  pub counted : length os ≡ suc n
  pub rising : Rising os

-- that it has one proof
RisingFrom-prop : (a : ℕ) (os : List ℕ) → IsProp (RisingFrom a os)
RisingFrom-prop a [] = Unit-prop
RisingFrom-prop a (b ∷ os) = ×_prop le_prop (RisingFrom-prop b os)

Rising-prop : (os : List ℕ) → IsProp (Rising os)
Rising-prop [] = Unit-prop
Rising-prop (a ∷ os) = hlevel (ℕ_set, RisingFrom-prop a os)

pub Offsets-prop : (n : ℕ) (os : List ℕ) → IsProp (Offsets n os)
Offsets-prop n os = hlevel (ℕ_set, Rising-prop os)
