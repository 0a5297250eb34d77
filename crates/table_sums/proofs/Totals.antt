-- The end of the highest-lying cell, cell by cell.
-- Assumes nothing.
use mathlib.Core.Path.{◌≡◌, refl, ap, ◌∙◌}
use Prim.Native.Nat.{ℕ, ◌+◌, ◌<◌, max}
use native.Mathlib.Omega.{arith}
use mathlib.Core.Bool.{Bool, true, false}
use mathlib.Core.List.{List, [], ◌∷◌, ◌++◌, append-nil}
use lib.Dec.{ltb}
use borrow.Author.Tests.{ltb-false}
use Rattle.array.specs.Lists.{from, pick, passing, All}
use Rattle.array.proofs.Geometry.{passing-append, from-append}
use Rattle.table.specs.Table.{ending, filled_by, OrZero, Placed}
use Rattle.table.specs.Lying.{top_by}
use Rattle.table.proofs.Each.{below_all}

module _ (start len : ℕ → ℕ) where
  pub top_append : (xs : List ℕ) (j : ℕ) → top_by start len (xs ++ (j ∷ [])) ≡ max (top_by start len xs) (ending start len j)
  top_append [] j = omega arith
  top_append (x ∷ xs) j = omega (arith, top_append xs j)

  filled_more : (j : ℕ) → filled_by start len (j + 1) ≡ filled_by start len j ++ pick (ltb 0 (len j)) (j ∷ []) []
  filled_more j =
      ap (passing (λ i. ltb 0 (len i))) (from-append 0 j 1 j (j + 1) (omega arith) refl) ∙ passing-append (λ i. ltb 0 (len i)) (from 0 j) (j ∷ [])

  pub placed_here : {size n : ℕ} → All (λ j. Placed size (start j) (len j)) (from 0 n) → (j : ℕ) → j < n → Placed size (start j) (len j)
  placed_here {size} {n} p j h = below_all (λ i. Placed size (start i) (len i)) n p j h

  abbrev pub top_to : ℕ → ℕ
  top_to j = top_by start len (filled_by start len j)

  pub top_more : (j : ℕ) {size : ℕ} → Placed size (start j) (len j) → top_to (j + 1) ≡ max (top_to j) (ending start len j)
  top_more j p = ap (top_by start len) (filled_more j) ∙ go (ltb 0 (len j)) refl p.1
    where
      go : (b : Bool) → ltb 0 (len j) ≡ b → OrZero b (start j) → top_by start len (filled_by start len j ++ pick b (j ∷ []) []) ≡ max (top_to j) (ending start len j)
      go true e z = top_append (filled_by start len j) j
      go false e z = ap (top_by start len) (append-nil (filled_by start len j)) ∙ omega (arith, ltb-false 0 (len j) e)
