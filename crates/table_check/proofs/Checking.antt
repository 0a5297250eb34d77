-- The check's last stage: cells that keep the other rules share no byte where those that have bytes follow one another as they lie.
-- Assumes nothing.
use mathlib.Core.Path.{◌≡◌, refl, sym, ap, ◌∙◌}
use mathlib.Core.Bool.{Bool, true, false, ◌&&◌}
use mathlib.Core.List.{List, [], ◌∷◌}
use Prim.Native.Nat.{ℕ, ◌+◌, ◌≤◌, ◌<◌, ◌^◌}
use native.Mathlib.Omega.{arith}
use lib.ListN.{length, take}
use Rattle.array.specs.Lists.{from, All, every}
use Rattle.array.specs.Cells.{strict_test}
use Rattle.array.proofs.Lists.{All-map}
use Rattle.array.proofs.Rules.{left_of_lem, right_of, all_every}
use Rattle.table.specs.Table.{Table, start_of, length_of, filled, Placed, placed_test, apart_test, fit_test, rests_test, places_test, table_test}
use Rattle.table.specs.Order.{Lies, follow_test}
use Rattle.table.proofs.Order.{All-filled, lies_all, lies_below, lies_are, follow_is, follow_ok}
use Rattle.table.proofs.Rules.{Fits, fit_ok, placed_ok, table_ok}
use Rattle.table_check.specs.Check.{cells_test, Reached}
use Rattle.table_check.specs.Told.{Lain}

module _ (d n : ℕ) (t : Table) where
  abbrev apart : Bool
  apart = apart_test (start_of t) (length_of t) (filled t n)

  apart_left : table_test d n t ≡ cells_test d n t && apart
  unfolding table_test
  apart_left = refl

  pub cells_broken : cells_test d n t ≡ false → table_test d n t ≡ false
  cells_broken e = apart_left ∙ ap (λ (b : Bool). b && apart) e

  module _ (cells : cells_test d n t ≡ true) where
    abbrev first : Bool
    first = fit_test d n t && every strict_test t.masks

    pub lists_fit : Fits d n t
    lists_fit =
        fit_ok d n t (left_of_lem (fit_test d n t) (every strict_test t.masks) (left_of_lem first (rests_test d n t) (left_of_lem (first && rests_test d n t) (places_test n t) cells)))

    all_placed : All (λ j. Placed (length t.store) (start_of t j) (length_of t j)) (from 0 n)
    all_placed =
        all_every (λ j. Placed (length t.store) (start_of t j) (length_of t j)) (λ j. placed_test (length t.store) (start_of t j) (length_of t j))
        (λ j. placed_ok (length t.store) (start_of t j) (length_of t j)) (from 0 n) (right_of (first && rests_test d n t) (places_test n t) cells)

    module _ {js : List ℕ} (l : Lies (start_of t) (length_of t) n js) where
      -- the cells that have bytes end within the store
      pub all_reached : length t.store < 2 ^ 64 → All (Reached t.starts t.lengths) js
      all_reached h =
          let within : ℕ → Type 0 = λ j. start_of t j + length_of t j ≤ length t.store in
          let ends : All within js =
          lies_all l within (All-filled (start_of t) (length_of t) n within (All-map (λ j. Placed (length t.store) (start_of t j) (length_of t j)) within (λ j p. p.0) (from 0 n) all_placed)) in
          go js (lies_below l) ends
        where
          go : (is : List ℕ) → All (λ j. j < n) is → All (λ j. start_of t j + length_of t j ≤ length t.store) is → All (Reached t.starts t.lengths) is
          go [] p q = tt
          go (i ∷ is) p q = (
            record { has_start = omega (arith, p.0, lists_fit.starts_fit); has_length = omega (arith, p.0, lists_fit.lengths_fit); ends_low = omega (arith, q.0, h) },
            go is p.1 q.1,
          )

      follow-left : table_test d n t ≡ follow_test (start_of t) (length_of t) 0 js
      follow-left = apart_left ∙ ap (λ (b : Bool). b && apart) cells ∙ sym (follow_is l)

      pub cells_overlap : follow_test (start_of t) (length_of t) 0 js ≡ false → table_test d n t ≡ false
      cells_overlap e = follow-left ∙ e

      pub cells_apart : follow_test (start_of t) (length_of t) 0 js ≡ true → {m : ℕ} {order : List ℕ} → take m order ≡ js → m ≤ n → Lain d n t order m
      cells_apart e first few =
          let lying = lies_are l (follow_ok (start_of t) (length_of t) 0 js e) in
          record { sound = table_ok d n t (follow-left ∙ e); few = few; order = first ∙ lying }
