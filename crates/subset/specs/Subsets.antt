-- Redundant by the law tested_subsets in merge_rules/proofs/Passing.antt: a list of subsets (S3.1, S3.2, S3.6), subset by subset.
-- What a walk asks, which is what is left at each turn; what the next subset is: GivesPart in subset/specs/Cells.antt.
-- Assumes nothing.
use Rattle.std.specs.Prelude.{ℕ, ◌≤◌, List, length}
use Rattle.std.specs.Coded.{le_prop}
use native.Mathlib.Nat.{ℕ_set}
use Rattle.array.specs.Shape.{ShapeOk}
use Rattle.array.specs.Subset.{Subset, FullOk, lengths, subsets_of, ManyOk}
use Rattle.subset.specs.Walk.{All-prop, SubsetOk-prop, ShapeOk-prop}

-- a shape, and numbers that are subsets of it, each of which holds a cell
pub record SubsetsOk (shape numbers : List ℕ) : Type 0 where
  pub shaped : ShapeOk shape
  pub many : ManyOk shape numbers

-- it has one proof at most, so that a struct may hold it
FullOk-prop : (shape : List ℕ) (b : Subset) → IsProp (FullOk shape b)
FullOk-prop shape b = hlevel (SubsetOk-prop shape b, All-prop (λ n. 1 ≤ n) (λ n. le_prop) (lengths b))

pub SubsetsOk-prop : (shape numbers : List ℕ) → IsProp (SubsetsOk shape numbers)
SubsetsOk-prop shape numbers = hlevel (ℕ_set, ShapeOk-prop, All-prop (FullOk shape) (FullOk-prop shape) (subsets_of (length shape) numbers))
