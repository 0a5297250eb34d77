-- Redundant by the contract of `arrangement::arrangement`, arrangement/src/lib.rt: what is known of the cells' states (S15.1, S15.2).
-- Assumes nothing.
use Rattle.std.specs.Prelude.{ℕ, ◌-◌, ◌<◌, ◌≡◌, List, map, get_or}
use Rattle.std.specs.Coded.{le_prop}
use native.Mathlib.Nat.{ℕ_set}
use Rattle.array.specs.Lists.{from}
use Rattle.array.specs.Places.{sum}
use Rattle.arrange.specs.Calls.{SmallOk}
use Rattle.arrange.specs.Places.{state_at}

pub SmallOk-prop : (d n : ℕ) → IsProp (SmallOk d n)
SmallOk-prop d n = hlevel le_prop

-- how many value bytes cell j of n has in number k
abbrev pub size_at : (d n k j : ℕ) → ℕ
size_at d n k j = state_at d n k j - d

-- cell j is in state j of the list, and all have so many bytes
pub record Digits (d n k : ℕ) (each : List ℕ) (bytes : ℕ) : Type 0 where
  pub states : (j : ℕ) → j < n → get_or each j 0 ≡ state_at d n k j
  pub summed : bytes ≡ sum (map (size_at d n k) (from 0 n))

pub Digits-prop : (d n k : ℕ) (each : List ℕ) (bytes : ℕ) → IsProp (Digits d n k each bytes)
Digits-prop d n k each bytes = hlevel ℕ_set
