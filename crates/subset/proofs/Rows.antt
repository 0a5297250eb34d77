-- A loop over the rows of a subset, whatever it does with them: what holds at its head, and a turn of it.
-- Assumes nothing.
use mathlib.Core.Path.{◌≡◌, refl, sym, ap, ap₂, ◌∙◌, subst}
use Prim.Native.Nat.{ℕ, zero, suc, ◌+◌, ◌-◌, ◌<◌, ◌≤◌}
use native.Mathlib.Nat.{add-zero}
use native.Mathlib.Omega.{arith}
use mathlib.Core.List.{List, [], ◌∷◌, ◌++◌}
use lib.ListN.{length, get_or, drop, length-drop, drop_of_length-le}
use lib.Seq.{get_or-drop, drop-drop}
use Rattle.array.specs.Limits.{most_cells}
use Rattle.array.specs.Lists.{from, All}
use Rattle.array.specs.Shape.{volume}
use Rattle.array.specs.Subset.{lengths, pairs, cells_in}
use Rattle.array.specs.Rows.{Within}
use Rattle.array.proofs.SubsetLaws.{length-cells_in, cells_in_below, lengths-pairs}
use Rattle.subset.specs.Walk.{SubsetAsked, row_of, Runs, Left, RowAt}
use Rattle.subset.proofs.Runs.{last_length, cells_runs, Begun, begun}
use Rattle.subset.proofs.Index.{All-drop, lengths_some, few_drop, few_within}

last_at : (ls : List ℕ) → 1 ≤ length ls → row_of ls ≡ last_length ls
last_at [] h = absurd (omega arith)
last_at (n ∷ []) h = refl
last_at (n ∷ m ∷ ls) h =
    let q : length (n ∷ m ∷ ls) - 1 ≡ suc (length (m ∷ ls) - 1) = omega arith in
    ap (λ (k : ℕ). get_or (n ∷ m ∷ ls) k 0) q ∙ last_at (m ∷ ls) (omega arith)

last_some : (ls : List ℕ) → 1 ≤ length ls → All (λ n. 1 ≤ n) ls → 1 ≤ last_length ls
last_some [] h p = absurd (omega arith)
last_some (n ∷ []) h p = p.0
last_some (n ∷ m ∷ ls) h p = last_some (m ∷ ls) (omega arith) p.1

-- a run that lies below v ends there
run_below : (v a n : ℕ) (js : List ℕ) → 1 ≤ n → All (λ j. j < v) (from a n ++ js) → a + n ≤ v
run_below v a zero js h p = absurd (omega arith)
run_below v a (suc zero) js h p = omega (arith, p.0)
run_below v a (suc (suc n)) js h p = omega (arith, run_below v (suc a) (suc n) js (omega arith) p.1)

-- ---- the subset

-- it has as many cells as its lengths say
pub within_cells : (sh st ls : List ℕ) → Within sh st ls → length (cells_in sh (pairs st ls)) ≡ volume ls
within_cells sh st ls f =
    length-cells_in sh (pairs st ls) f.inside ∙ ap volume (lengths-pairs st ls (omega (arith, f.as_many_starts, f.as_many_lengths)))

-- they are cells of the shape
within_below : (sh st ls : List ℕ) → Within sh st ls → All (λ j. j < volume sh) (cells_in sh (pairs st ls))
within_below sh st ls f = cells_in_below sh (pairs st ls) f.inside

-- ---- the loop: of the cells cs, in rows of n, those from `at` on are left

-- the rows are as long as the last length; an empty subset has none
left_begins : (sh st ls : List ℕ) {cells : ℕ} → Within sh st ls → 1 ≤ length sh → cells ≡ volume ls
    → Left (cells_in sh (pairs st ls)) cells (row_of ls) 0
left_begins sh st ls f h e =
    let hl : 1 ≤ length ls = omega (arith, f.as_many_lengths) in
    let el : lengths (pairs st ls) ≡ ls = lengths-pairs st ls (omega (arith, f.as_many_starts, f.as_many_lengths)) in
    record {
      whole = e ∙ sym (within_cells sh st ls f);
      some = λ g. subst (λ (k : ℕ). 1 ≤ k) (sym (last_at ls hl)) (last_some ls hl (lengths_some ls (omega arith)));
      within = omega arith;
      left = subst (λ (k : ℕ). Runs k (cells_in sh (pairs st ls))) (ap last_length el ∙ sym (last_at ls hl)) (cells_runs sh (pairs st ls) h f.inside);
    }

module _ {cs : List ℕ} {cells n at : ℕ} (w : Left cs cells n at) where
  pub left-ends : cells ≤ at → drop at cs ≡ []
  left-ends h = let q : length cs ≤ at = omega (arith, w.whole) in drop_of_length-le cs q

  module _ (h : at < cells) where
    left_some : 1 ≤ n
    left_some = w.some (omega arith)

    now : Begun n (drop at cs)
    now = begun n left_some (omega (arith, length-drop at cs, w.whole)) w.left

    -- what is left begins with a row, from the cell at `at`
    left_next : drop at cs ≡ from (get_or cs at 0) n ++ drop (at + n) cs
    left_next =
        let q : get_or (drop at cs) 0 0 ≡ get_or cs at 0 = get_or-drop at cs 0 0 ∙ ap (λ (k : ℕ). get_or cs k 0) (add-zero at) in
        now.first ∙ ap₂ (λ (a : ℕ) (r : List ℕ). from a n ++ r) q (drop-drop n at cs)

    left-within : at + n ≤ cells
    left-within = omega (arith, now.as_long, length-drop at cs, w.whole)

    left_room : (v : ℕ) → All (λ j. j < v) cs → get_or cs at 0 + n ≤ v
    left_room v p = run_below v (get_or cs at 0) n (drop (at + n) cs) left_some (subst (All (λ j. j < v)) left_next (All-drop (λ j. j < v) at cs p))

    left_more : Left cs cells n (at + n)
    left_more = record { whole = w.whole; some = w.some; within = left-within; left = subst (Runs n) (drop-drop n at cs) now.rest }

-- ---- a subset that is asked for

module _ {sh st ls : List ℕ} {count : ℕ} (a : SubsetAsked sh st ls count) where
  pub asked_left : Left (cells_in sh (pairs st ls)) count (row_of ls) 0
  asked_left = left_begins sh st ls a.within a.shaped.some_sides a.counted

  pub asked_below : All (λ j. j < volume sh) (cells_in sh (pairs st ls))
  asked_below = within_below sh st ls a.within

  pub asked_count : length (cells_in sh (pairs st ls)) ≡ count
  asked_count = within_cells sh st ls a.within ∙ sym a.counted

  pub asked_volume : volume (lengths (pairs st ls)) ≡ count
  asked_volume = sym (length-cells_in sh (pairs st ls) a.within.inside) ∙ asked_count

  pub asked_few : count ≤ 65536
  unfolding most_cells
  asked_few = omega (arith, a.counted, few_drop 0 ls (few_within st ls a.shaped a.within))

  pub asked_lengths : 1 ≤ length ls
  asked_lengths = omega (arith, a.shaped.some_sides, a.within.as_many_lengths)

  -- the next row
  pub row_is : {at first : ℕ} → Left (cells_in sh (pairs st ls)) count (row_of ls) at → at < count → first ≡ get_or (cells_in sh (pairs st ls)) at 0
      → RowAt sh ls (cells_in sh (pairs st ls)) count at first (row_of ls)
  row_is {at} {first} g h e = record {
    next = left_next g h ∙ ap (λ (x : ℕ). from x (row_of ls) ++ drop (at + row_of ls) (cells_in sh (pairs st ls))) (sym e);
    some = left_some g h;
    within = left-within g h;
    inside = omega (arith, e, left_room g h (volume sh) asked_below);
    rest = left_more g h;
  }

  -- where the row's length was read before
  pub row_long : {at first n : ℕ} → Left (cells_in sh (pairs st ls)) count (row_of ls) at → at < count → first ≡ get_or (cells_in sh (pairs st ls)) at 0
      → n ≡ row_of ls → RowAt sh ls (cells_in sh (pairs st ls)) count at first n
  row_long {at} {first} g h e l = subst (λ (k : ℕ). RowAt sh ls (cells_in sh (pairs st ls)) count at first k) (sym l) (row_is g h e)
