-- Marking the cells of a subset row by row, and those of all subsets of a list: what holds at the head of each loop, and a turn of it.
-- Assumes nothing.
use mathlib.Core.Path.{◌≡◌, refl, sym, ap, ◌∙◌}
use Prim.Native.Nat.{ℕ, ◌+◌, ◌-◌, ◌<◌, ◌≤◌}
use native.Mathlib.Omega.{arith}
use mathlib.Core.Bool.{Bool, true, false}
use mathlib.Core.List.{List, [], ◌∷◌}
use lib.ListN.{length, drop, length-append}
use lib.Dec.{eqb}
use borrow.Author.Tests.{eq-eqb, ne_eqb, eqb-true, eqb-false}
use Rattle.array.specs.Answer.{Answer, gives, refuses, and_then}
use Rattle.array.specs.Lists.{from, All}
use Rattle.array.specs.Shape.{volume}
use Rattle.array.specs.Subset.{Subset, subsets_of, pairs, cells_in, cells_of_all}
use Rattle.array.proofs.SubsetLaws.{all_below}
use Rattle.subset.specs.Walk.{SubsetAsked, row_of, Left, RowAt}
use Rattle.subset.specs.Subsets.{SubsetsOk}
use Rattle.subset.proofs.Rows.{left-ends, asked_count}
use Rattle.subset.proofs.Subsets.{all_inside}
use Rattle.chunks.specs.Gather.{once_test}
use Rattle.merge_cover.specs.Marks.{marking, unmarked}
use Rattle.merge_cover.proofs.Once.{marking-append, once_marked, once_refused, once_beyond}

-- ---- one subset: its cells from `at` on are left

pub record Marked (cs m₀ m : List ℕ) (cells n at : ℕ) : Type 0 where
  pub geo : Left cs cells n at
  pub same : marking m₀ cs ≡ marking m (drop at cs)

pub marked_begins : {cs : List ℕ} (m : List ℕ) {cells n : ℕ} → Left cs cells n 0 → Marked cs m m cells n 0
marked_begins m g = record { geo = g; same = refl }

module _ {cs m₀ m : List ℕ} {cells n at : ℕ} (w : Marked cs m₀ m cells n at) where
  pub marked_ends : cells ≤ at → gives m ≡ marking m₀ cs
  unfolding marking
  marked_ends h = sym (w.same ∙ ap (marking m) (left-ends w.geo h))

  module _ {sh ls : List ℕ} {a k : ℕ} (q : RowAt sh ls cs cells at a k) where
    next : {r : Answer (List ℕ)} → r ≡ marking m (from a k) → marking m₀ cs ≡ and_then r (λ u. marking u (drop (at + k) cs))
    next e =
        w.same ∙ ap (marking m) q.next
        ∙ marking-append m (from a k) (drop (at + k) cs) ∙ ap (λ (x : Answer (List ℕ)). and_then x (λ u. marking u (drop (at + k) cs))) (sym e)

    pub marked_more : {m' : List ℕ} → gives m' ≡ marking m (from a k) → Marked cs m₀ m' cells (row_of ls) (at + k)
    marked_more r = record { geo = q.rest; same = next r }

    pub marked_over : refuses 12 ≡ marking m (from a k) → refuses 12 ≡ marking m₀ cs
    marked_over r = sym (next r)

-- ---- all subsets: those of the list `rest` are left, and so many cells of the shape

pub record AllMarked (sh flat m : List ℕ) (rest : List Subset) (left : ℕ) : Type 0 where
  pub same : marking unmarked (cells_of_all sh (subsets_of (length sh) flat)) ≡ marking m (cells_of_all sh rest)
  pub counted : length (cells_of_all sh (subsets_of (length sh) flat)) + left ≡ volume sh + length (cells_of_all sh rest)

module _ {sh flat : List ℕ} (q : SubsetsOk sh flat) where
  abbrev all : List ℕ
  all = cells_of_all sh (subsets_of (length sh) flat)

  below : All (λ j. j < volume sh) all
  below = all_below sh (subsets_of (length sh) flat) (all_inside sh (subsets_of (length sh) flat) q.many.each)

  pub cover_begins : {m : List ℕ} {left : ℕ} → m ≡ unmarked → left ≡ volume sh → AllMarked sh flat m (subsets_of (length sh) flat) left
  cover_begins e l = record { same = ap (λ (u : List ℕ). marking u all) (sym e); counted = omega (arith, l) }

  module _ {m : List ℕ} {rest : List Subset} {left : ℕ} (c : AllMarked sh flat m rest left) where
    pub cover_ends : rest ≡ [] → once_test (volume sh) all ≡ eqb left 0
    unfolding marking
    cover_ends n =
        once_marked (volume sh) all q.shaped.few_cells below m (sym (c.same ∙ ap (λ (bs : List Subset). marking m (cells_of_all sh bs)) n))
        ∙ none (omega (arith, c.counted, ap (λ (bs : List Subset). length (cells_of_all sh bs)) n)) (eqb left 0) refl
      where
        none : length all + left ≡ volume sh → (b : Bool) → eqb left 0 ≡ b → eqb (length all) (volume sh) ≡ b
        none e true z = eq-eqb (length all) (volume sh) (omega (arith, eqb-true left 0 z))
        none e false z = ne_eqb (length all) (volume sh) (λ k. eqb-false left 0 z (omega arith))

    -- the next subset, and those after it
    module _ {starts lens : List ℕ} {later : List Subset} {cells : ℕ} (e : rest ≡ pairs starts lens ∷ later) (t : SubsetAsked sh starts lens cells) where
      -- the cells that are left, those of the next subset taken off
      next_left : length all + left ≡ volume sh + (cells + length (cells_of_all sh later))
      next_left =
          omega (
            arith,
            c.counted,
            ap (λ (bs : List Subset). length (cells_of_all sh bs)) e,
            length-append (cells_in sh (pairs starts lens)) (cells_of_all sh later),
            asked_count t,
          )

      next_subset : {r : Answer (List ℕ)} → r ≡ marking m (cells_in sh (pairs starts lens)) → marking unmarked all ≡ and_then r (λ u. marking u (cells_of_all sh later))
      next_subset f =
          c.same ∙ ap (λ (bs : List Subset). marking m (cells_of_all sh bs)) e
          ∙ marking-append m (cells_in sh (pairs starts lens)) (cells_of_all sh later)
          ∙ ap (λ (x : Answer (List ℕ)). and_then x (λ u. marking u (cells_of_all sh later))) (sym f)

      pub cover_beyond : left < cells → once_test (volume sh) all ≡ false
      cover_beyond l = once_beyond (volume sh) all q.shaped.few_cells below (omega (arith, next_left))

      pub cover_over : refuses 12 ≡ marking m (cells_in sh (pairs starts lens)) → once_test (volume sh) all ≡ false
      cover_over r = once_refused (volume sh) all q.shaped.few_cells below (sym (next_subset r))

      pub cover_more : {m' : List ℕ} → gives m' ≡ marking m (cells_in sh (pairs starts lens)) → cells ≤ left → AllMarked sh flat m' later (left - cells)
      cover_more r l = record { same = next_subset r; counted = omega (arith, next_left) }
