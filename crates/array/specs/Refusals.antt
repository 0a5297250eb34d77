-- docs/SPEC.md, S7.1 to S7.3: each refusal given when its rule is broken and no earlier one is, and never otherwise.
-- A call's rules stand in the order of S6.1, each with the number that refuses what breaks it.
-- Assumes nothing.
use Rattle.std.specs.Prelude.{ℕ, ◌≤◌, ◌≡◌, List, [], ◌∷◌, length}
use Rattle.array.specs.Answer.{Answer, gives, refuses}
use Rattle.array.specs.Kind.{fixed, little, FormOk}
use Rattle.array.specs.Shape.{ShapeOk}
use Rattle.array.specs.Subset.{subset_of, NumbersOk, cells_in}
use Rattle.array.specs.Calls.{endianness_reversed, subset_cells}

-- the number, and the rule
abbrev pub Rule : Type 1
Rule = ℕ × Type 0

-- the first rule that is broken gives its number; where none is, the answer is a success
pub data InOrder {A : Type 0} : List Rule → Answer A → Type 1 where
  success : {x : A} → InOrder [] (gives x)
  broken : {k : ℕ} {P : Type 0} {rs : List Rule} → (P → ⊥) → InOrder ((k, P) ∷ rs) (refuses k)
  kept : {k : ℕ} {P : Type 0} {rs : List Rule} {a : Answer A} → P → InOrder rs a → InOrder ((k, P) ∷ rs) a

-- a rule for what an earlier step gave
pub record Given {A : Type 0} (a : Answer A) (P : A → Type 0) : Type 0 where
  pub keeps : (x : A) → a ≡ gives x → P x

-- ---- the calls of this layer

abbrev pub reverse_rules : ℕ → List Rule
reverse_rules k = (1, FormOk (fixed k little)) ∷ []

abbrev pub subset_rules : List ℕ → List ℕ → List ℕ → List Rule
subset_rules shape ns out =
    (2, ShapeOk shape) ∷ (3, NumbersOk shape ns) ∷ (6, length (cells_in shape (subset_of (length shape) ns)) ≤ length out) ∷ []

pub record Refusals : Type 1 where
  pub reverse_endianness : (k : ℕ) (s : List ℕ) → InOrder (reverse_rules k) (endianness_reversed k s).answer
  pub subset_cells_call : (shape ns out : List ℕ) → InOrder (subset_rules shape ns out) (subset_cells shape ns out).answer
