-- Storing the cells of a subset row by row.
-- Assumes nothing.
use mathlib.Core.Path.{◌≡◌, sym, ap, ap₂, ◌∙◌}
use Prim.Native.Nat.{ℕ, suc, ◌+◌, ◌-◌, ◌<◌, ◌≤◌}
use native.Mathlib.Nat.{add-zero, sub-zero, zero-add}
use native.Mathlib.Omega.{arith}
use mathlib.Core.List.{List, ◌∷◌}
use lib.ListN.{length, drop, set}
use Rattle.array.specs.Lists.{from}
use Rattle.array.specs.Buffers.{over, over_at}
use Rattle.array.proofs.Lists.{length_from_lem}
use Rattle.array.proofs.Laying.{Laying, laying_begins, laying_same, laying_ends, laying_part, laying_store, laying_is, laying_room}
use Rattle.subset.specs.Walk.{row_of, Left, RowAt}
use Rattle.array.proofs.CellAnswers.{cells_no_shape, cells_no_subset, cells_no_room, cells_stored}
use Rattle.valid.proofs.ShapeLaws.{counted, not_counted}
use Rattle.subset.proofs.Rows.{left-ends, asked_count}

-- ---- one row: n neighbours from the cell a on, stored one by one

abbrev pub RunLaid : List ℕ → ℕ → ℕ → ℕ → List ℕ → ℕ → Type 0
RunLaid d at a n out i = Laying (from a n) d at out i (from (a + i) (n - i))

run_next : (a n i : ℕ) → i < n → from (a + i) (n - i) ≡ (a + i) ∷ from (a + (i + 1)) (n - (i + 1))
run_next a n i h =
    let e : n - i ≡ suc (n - (i + 1)) = omega arith in
    let q : suc (a + i) ≡ a + (i + 1) = omega arith in
    ap (from (a + i)) e ∙ ap (λ (k : ℕ). (a + i) ∷ from k (n - (i + 1))) q

pub run_begins : (d : List ℕ) (at a n : ℕ) → at + n ≤ length d → RunLaid d at a n d 0
run_begins d at a n p = laying_is (laying_begins (from a n) d at (omega (arith, length_from_lem a n))) (ap₂ from (sym (add-zero a)) (sym (sub-zero n)))

module _ (d : List ℕ) (at a n : ℕ) (out : List ℕ) (i : ℕ) (l : RunLaid d at a n out i) where
  pub run_same : length out ≡ length d
  run_same = laying_same (from a n) d at out i (from (a + i) (n - i)) l

  pub run_ends : n ≤ i → out ≡ over_at at (from a n) d
  run_ends h = let e : n - i ≡ 0 = omega arith in laying_ends (from a n) d at out i (laying_is l (ap (from (a + i)) e))

  module _ (h : i < n) where
    pub run_room : at + i < length out
    run_room = laying_room (from a n) d at out i (a + i) (from (a + (i + 1)) (n - (i + 1))) (laying_is l (run_next a n i h))

    pub run_more : RunLaid d at a n (set out (at + i) (a + i)) (i + 1)
    run_more = laying_store (from a n) d at out i (a + i) (from (a + (i + 1)) (n - (i + 1))) (laying_is l (run_next a n i h))

-- ---- one row after another: those before `at` are stored

pub record Stored (cs d out : List ℕ) (cells n at : ℕ) : Type 0 where
  pub geo : Left cs cells n at
  pub laid : Laying cs d 0 out at (drop at cs)

pub stored_begins : {cs : List ℕ} (d : List ℕ) {cells n : ℕ} → Left cs cells n 0 → cells ≤ length d → Stored cs d d cells n 0
stored_begins {cs} d g h = record { geo = g; laid = laying_begins cs d 0 (omega (arith, g.whole)) }

module _ {cs d out : List ℕ} {cells n at : ℕ} (s : Stored cs d out cells n at) where
  pub stored_same : length out ≡ length d
  stored_same = laying_same cs d 0 out at (drop at cs) s.laid

  pub stored_ends : cells ≤ at → out ≡ over cs d
  stored_ends h = laying_ends cs d 0 out at (laying_is s.laid (left-ends s.geo h))

  pub stored_more : {sh ls : List ℕ} {a k : ℕ} → RowAt sh ls cs cells at a k → {out' : List ℕ} → out' ≡ over_at at (from a k) out → Stored cs d out' cells (row_of ls) (at + k)
  stored_more {a = a} {k = k} q {out'} e = record {
    geo = q.rest;
    laid = laying_part cs d 0 out at (from a k) (drop (at + k) cs) (laying_is s.laid q.next)
        out' (e ∙ ap (λ (x : ℕ). over_at x (from a k) out) (sym (zero-add at)))
        (at + k) (ap (λ (x : ℕ). at + x) (sym (length_from_lem a k)));
  }

pub ruleset cells_laws = (counted, not_counted, cells_no_shape, cells_no_subset, cells_no_room, cells_stored, asked_count)
