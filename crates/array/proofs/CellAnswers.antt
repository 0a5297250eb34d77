-- The call subset_cells: each refusal in its order, and success.
-- Assumes nothing.
use mathlib.Core.Path.{◌≡◌, refl, sym, ap, ap₂, ◌∙◌}
use mathlib.Core.Bool.{Bool, true, false}
use mathlib.Core.List.{List}
use Prim.Native.Nat.{ℕ, ◌<◌, ◌≤◌}
use native.Mathlib.Omega.{arith}
use lib.ListN.{length}
use lib.Dec.{leb}
use borrow.Author.Tests.{le-leb, lt-leb}
use Rattle.array.specs.Answer.{Answer, gives, refuses, unless, Outcome}
use Rattle.array.specs.Shape.{shape_test}
use Rattle.array.specs.Subset.{Subset, subset_of, numbers_test, cells_in}
use Rattle.array.specs.Buffers.{over, list_outcome}
use Rattle.array.specs.Calls.{cells_answer, subset_cells}

module _ (sh ns out : List ℕ) where
  abbrev after : Answer ℕ → List ℕ → Outcome ℕ (List ℕ)
  after a b = record { answer = a; buffers = b }

  answered : (a b c : Bool) → shape_test sh ≡ a → numbers_test sh ns ≡ b → leb (length (cells_in sh (subset_of (length sh) ns))) (length out) ≡ c
      → subset_cells sh ns out ≡ list_outcome (unless a 2 (unless b 3 (unless c 6 (gives (cells_in sh (subset_of (length sh) ns)))))) out
  unfolding subset_cells cells_answer
  answered a b c p q r = rw (p, q, r)

  pub cells_no_shape : shape_test sh ≡ false → after (refuses 2) out ≡ subset_cells sh ns out
  cells_no_shape p = sym (answered false (numbers_test sh ns) (leb (length (cells_in sh (subset_of (length sh) ns))) (length out)) p refl refl)

  module _ (p : shape_test sh ≡ true) where
    pub cells_no_subset : numbers_test sh ns ≡ false → after (refuses 3) out ≡ subset_cells sh ns out
    cells_no_subset q = sym (answered true false (leb (length (cells_in sh (subset_of (length sh) ns))) (length out)) p q refl)

    module _ (q : numbers_test sh ns ≡ true) (n : ℕ) (e : n ≡ length (cells_in sh (subset_of (length sh) ns))) where
      pub cells_no_room : length out < n → after (refuses 6) out ≡ subset_cells sh ns out
      cells_no_room h = sym (answered true true false p q (lt-leb (length (cells_in sh (subset_of (length sh) ns))) (length out) (omega arith)))

      pub cells_stored : n ≤ length out → (b : Subset) → b ≡ subset_of (length sh) ns → (out' : List ℕ) → out' ≡ over (cells_in sh b) out → after (gives n) out' ≡ subset_cells sh ns out
      cells_stored h b g out' r =
          ap₂ (λ (k : ℕ) (o : List ℕ). after (gives k) o) e (r ∙ ap (λ (c : Subset). over (cells_in sh c) out) g)
          ∙ sym (answered true true true p q (le-leb (length (cells_in sh (subset_of (length sh) ns))) (length out) (omega arith)))
