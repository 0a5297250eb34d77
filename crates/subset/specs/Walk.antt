-- Redundant by the laws asked_left and row_is in subset/proofs/Rows.antt: the cells of a subset (S3.3) row by row, runs of neighbours.
-- What a walk asks, what is left at each turn, and what the next row is.
-- Assumes nothing.
use Rattle.std.specs.Prelude.{◌≡◌, ℕ, ◌+◌, ◌-◌, ◌≤◌, List, [], ◌∷◌, ◌++◌, length, get_or, drop}
use Rattle.std.specs.Coded.{le_prop, Unit-prop, ×_prop}
use mathlib.Core.HLevel.{⊥_prop}
use native.Mathlib.Nat.{ℕ_set}
use Rattle.array.specs.Lists.{from, All}
use Rattle.array.specs.Shape.{volume, ShapeOk}
use Rattle.array.specs.Subset.{Subset, SubsetOk}
use Rattle.array.specs.Rows.{Within}

-- a subset of so many cells, within its shape
pub record SubsetAsked (shape starts lens : List ℕ) (count : ℕ) : Type 0 where
  pub shaped : ShapeOk shape
  pub within : Within shape starts lens
  pub counted : count ≡ volume lens

-- it has one proof at most, so that a struct may hold it
pub All-prop : {A : Type 0} (P : A → Type 0) → ((x : A) → IsProp (P x)) → (xs : List A) → IsProp (All P xs)
All-prop P p [] = Unit-prop
All-prop P p (x ∷ xs) = ×_prop (p x) (All-prop P p xs)

pub SubsetOk-prop : (shape : List ℕ) (b : Subset) → IsProp (SubsetOk shape b)
SubsetOk-prop [] [] = Unit-prop
SubsetOk-prop [] (b ∷ bs) = ⊥_prop
SubsetOk-prop (s ∷ ss) [] = ⊥_prop
SubsetOk-prop (s ∷ ss) (b ∷ bs) = ×_prop le_prop (SubsetOk-prop ss bs)

pub ShapeOk-prop : (shape : List ℕ) → IsProp (ShapeOk shape)
ShapeOk-prop shape = hlevel (le_prop, All-prop (λ s. 1 ≤ s) (λ s. le_prop) shape)

pub SubsetAsked-prop : (shape starts lens : List ℕ) (count : ℕ) → IsProp (SubsetAsked shape starts lens count)
SubsetAsked-prop shape starts lens count = hlevel (ℕ_set, ShapeOk-prop, SubsetOk-prop)

-- how many cells a row has
abbrev pub row_of : List ℕ → ℕ
row_of lens = get_or lens (length lens - 1) 0

-- runs of n numbers, one after another
pub data Runs (n : ℕ) : List ℕ → Type 0 where
  none : Runs n []
  run : (a : ℕ) {js : List ℕ} → Runs n js → Runs n (from a n ++ js)

-- of the cells cs, in rows of n, those from `at` on are left
pub record Left (cs : List ℕ) (cells n at : ℕ) : Type 0 where
  pub whole : cells ≡ length cs
  pub some : 1 ≤ cells → 1 ≤ n
  pub within : at ≤ cells
  pub left : Runs n (drop at cs)

-- what is left begins with a row: n neighbours from the cell `first` on, cells of the shape
pub record RowAt (shape lens cs : List ℕ) (cells at first n : ℕ) : Type 0 where
  pub next : drop at cs ≡ from first n ++ drop (at + n) cs
  pub some : 1 ≤ n
  pub within : at + n ≤ cells
  pub inside : first + n ≤ volume shape
  pub rest : Left cs cells (row_of lens) (at + n)
