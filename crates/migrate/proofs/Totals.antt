-- The bytes of a cut, counted chunk by chunk: a walk that reads each chunk once knows them before anything is stored.
-- Assumes nothing.
use mathlib.Core.Path.{◌≡◌, refl, sym, ap, ap₂, ◌∙◌}
use Prim.Native.Nat.{ℕ, suc, ◌+◌, ◌*◌, ◌<◌}
use native.Mathlib.Nat.{zero-mul}
use native.Mathlib.Omega.{arith}
use mathlib.Core.Bool.{Bool, true, false}
use mathlib.Core.List.{List, [], ◌∷◌, ◌++◌}
use lib.ListN.{length, get_or}
use Rattle.array.specs.Lists.{joined, pick, All, count}
use Rattle.array.specs.Shape.{volume}
use Rattle.array.specs.Subset.{Subset, subset_of, NumbersOk, SubsetOk, cells_in, cells_of_all, coordinates, inside_test}
use Rattle.array.specs.Cells.{Value}
use Rattle.array.specs.Places.{sum}
use Rattle.array.proofs.Geometry.{count_cells}
use Rattle.array.proofs.Lists.{map-from}
use Rattle.array.proofs.Sums.{sum_of, sum-count, length-joined-map}
use Rattle.array.proofs.SubsetLaws.{cells_in_below, all_below}
use Rattle.chunks.specs.Gather.{Once, put_back}
use Rattle.chunks.proofs.Gather.{put_back_at}
use Rattle.migrate.specs.Live.{LiveTable, chunk_subsets}
use Rattle.migrate.specs.Calls.{cut_values}
use Rattle.migrate.specs.Totals.{asked_test, bytes_asked}
use Rattle.migrate.proofs.Live.{Sound}
use Rattle.migrate.proofs.Cuts.{within, as_many}

-- ---- part by part

pub bytes_asked_more : (f : ℕ → Bool) (js ks : List ℕ) (vs ws : List Value) → length js ≡ length vs
    → bytes_asked f (js ++ ks) (vs ++ ws) ≡ bytes_asked f js vs + bytes_asked f ks ws
bytes_asked_more f [] ks [] ws e = omega arith
bytes_asked_more f [] ks (v ∷ vs) ws e = absurd (omega arith)
bytes_asked_more f (j ∷ js) ks [] ws e = absurd (omega arith)
bytes_asked_more f (j ∷ js) ks (v ∷ vs) ws e = omega (arith, bytes_asked_more f js ks vs ws (omega arith))

-- ---- places that stand once

module _ (shape : List ℕ) (b : Subset) (fit : SubsetOk shape b) (all : List ℕ) (below : All (λ j. j < volume shape) all) (once : Once (volume shape) all) (f : ℕ → ℕ) where
  abbrev inside : ℕ → Bool
  inside j = inside_test b (coordinates shape j)

  abbrev g : ℕ → ℕ
  g j = pick (inside j) (f j) 0

  times : (t : Bool) (m : ℕ) → pick t 1 0 * m ≡ 1 * pick t m 0
  times true m = refl
  times false m = zero-mul m

  -- the cells of a subset, or those that lie in it among all
  sum_inside : sum_of f (cells_in shape b) ≡ sum_of g all
  sum_inside =
      sum-count f (volume shape) (cells_in shape b) (cells_in_below shape b fit)
      ∙ ap sum
      (map-from (λ i. count i (cells_in shape b) * f i) (λ i. count i all * g i) 0 (volume shape)
      (λ i h. ap (λ (c : ℕ). c * f i) (count_cells shape b fit i (omega arith)) ∙ times (inside i) (f i) ∙ sym (ap (λ (c : ℕ). c * g i) (once i (omega arith)))))
      ∙ sym (sum-count g (volume shape) all below)

-- ---- the cut

by_values : (f : ℕ → Bool) (h : ℕ → Value) (js : List ℕ) (vs : List Value) → length js ≡ length vs → ((i : ℕ) → i < length js → h (get_or js i 0) ≡ get_or vs i [])
    → sum_of (λ j. pick (f j) (length (h j)) 0) js ≡ bytes_asked f js vs
by_values f h [] vs e p = refl
by_values f h (j ∷ js) [] e p = absurd (omega arith)
by_values f h (j ∷ js) (v ∷ vs) e p =
    ap₂ (λ (m n : ℕ). m + n) (ap (λ (w : Value). pick (f j) (length w) 0) (p 0 (omega arith)))
    (by_values f h js vs (omega arith) (λ i l. p (suc i) (omega arith)))

module _ {t : LiveTable} {vss : List (List Value)} (s : Sound t vss) where
  abbrev all_cells : List ℕ
  all_cells = cells_of_all t.shape (chunk_subsets t)

  abbrev back : List Value
  back = put_back [] (volume t.shape) all_cells (joined vss)

  pub cut_total : (ns : List ℕ) → NumbersOk t.shape ns → length (joined (cut_values t ns vss)) ≡ bytes_asked (asked_test t ns) all_cells (joined vss)
  cut_total ns p =
      let b : Subset = subset_of (length t.shape) ns in
      length-joined-map (λ i. get_or back i []) (cells_in t.shape b)
      ∙ sum_inside t.shape b p.fits all_cells (all_below t.shape (chunk_subsets t) (within s)) s.once (λ i. length (get_or back i []))
      ∙ by_values (asked_test t ns) (λ i. get_or back i []) all_cells (joined vss) (as_many s)
      (λ i h. put_back_at (volume t.shape) all_cells (all_below t.shape (chunk_subsets t) (within s)) s.once [] (joined vss) i (as_many s) h)
