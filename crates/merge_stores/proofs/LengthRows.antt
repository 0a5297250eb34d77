-- Storing the lengths of ragged values at their cells' places.
-- Assumes nothing.
use mathlib.Core.Path.{◌≡◌, refl, sym, ap, ◌∙◌, subst}
use Prim.Native.Nat.{ℕ, ◌+◌, ◌-◌, ◌<◌, ◌≤◌}
use native.Mathlib.Nat.{mul-one}
use native.Mathlib.Numerals.{add-one}
use native.Mathlib.Omega.{arith}
use mathlib.Core.List.{List}
use lib.ListN.{length, set}
use lib.Seq.{take_all}
use Rattle.array.specs.Buffers.{over_at}
use Rattle.array.specs.Lists.{from}
use Rattle.array.specs.Places.{fixed_at, offset_at, step_at, steps_at}
use Rattle.array.specs.Shape.{volume}
use Rattle.array.proofs.Lists.{at_from}
use Rattle.array.proofs.Places.{fixed_rises}
use Rattle.subset.specs.Walk.{row_of, RowAt}
use Rattle.buffer.proofs.Copying.{Copying, copy_more, copy_ends}
use Rattle.merge_stores.proofs.RaggedMerge.{many_from}
use Rattle.merge_stores.proofs.RaggedTies.{part-from}
use Rattle.merge_stores.proofs.RowsStored.{Store, store_more}

-- one more length of n, from the offsets on both its sides
module _ {d : List ℕ} {at : ℕ} (src : List ℕ) (first : ℕ) {n : ℕ} {o : List ℕ} {i : ℕ} (c : Copying d at (steps_at (offset_at src) (from first n)) 0 n o i) where
  pub steps_more : i < n → Copying d at (steps_at (offset_at src) (from first n)) 0 n (set o (at + i) (offset_at src (first + i + 1) - offset_at src (first + i))) (i + 1)
  steps_more k =
      let e : first + (0 + i) ≡ first + i = omega arith in
      subst (λ (x : ℕ). Copying d at (steps_at (offset_at src) (from first n)) 0 n (set o (at + i) x) (i + 1))
      (at_from 0 (step_at (offset_at src)) n first (0 + i) (omega arith) ∙ ap (step_at (offset_at src)) e
      ∙ ap (λ (y : ℕ). offset_at src y - offset_at src (first + i)) (sym (add-one (first + i)))) (copy_more c k)

  pub steps_end : n ≤ i → o ≡ over_at at (steps_at (offset_at src) (from first n)) d
  steps_end l =
      copy_ends c l ∙ ap (λ (w : List ℕ). over_at at w d) (take_all n (steps_at (offset_at src) (from first n)) (omega (arith, many_from (step_at (offset_at src)) first n)))

-- the store of the lengths of a run of cells
module _ (src : List ℕ) (first : ℕ) {cs d o : List ℕ} {cells m at : ℕ} (c : Store (fixed_at 1 1) cs (steps_at (offset_at src) (from first cells)) d o cells m at at)
    {sh ls : List ℕ} {a n : ℕ} (q : RowAt sh ls cs cells at a n) (room : 1 + a + n ≤ length d) {o' : List ℕ}
    (p : o' ≡ over_at (1 + a) (steps_at (offset_at src) (from (first + at) n)) o) where
  pub lengths_row : Store (fixed_at 1 1) cs (steps_at (offset_at src) (from first cells)) d o' cells (row_of ls) (at + n) (at + n)
  lengths_row =
      store_more c q (fixed_rises 1 1 (volume sh)) (1 + a) n (at + n)
      (ap (λ (k : ℕ). 1 + k) (sym (mul-one a))) (omega (arith, mul-one a, mul-one (a + n))) refl room (omega (arith, q.within, many_from (step_at (offset_at src)) first cells))
      (p ∙ ap (λ (x : List ℕ). over_at (1 + a) x o) (sym (part-from (step_at (offset_at src)) first (first + at) at n cells refl q.within)))
