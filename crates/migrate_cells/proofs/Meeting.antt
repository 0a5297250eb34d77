-- Subsets that do not meet: no cell of one has a place in the other. The loop that looks for a side where they are apart.
-- Assumes nothing.
use mathlib.Core.Path.{◌≡◌, refl, sym, ap, ap₂, ◌∙◌}
use mathlib.Core.Logic.{◌≢◌}
use Prim.Native.Nat.{ℕ, zero, suc, ◌+◌, ◌-◌, ◌*◌, ◌<◌, ◌≤◌}
use native.Mathlib.Numerals.{add-one}
use native.Mathlib.Nat.{mul-one, one-mul, mul-le-mul_left, mul-le-mul_right}
use native.Mathlib.Omega.{arith}
use mathlib.Core.Bool.{Bool, true, false, ◌||◌}
use mathlib.Core.List.{List, [], ◌∷◌, map}
use lib.ListN.{length, get_or, drop, drop_of_length-le}
use lib.Dec.{leb, ltb}
use lib.Seq.{drop-cons}
use borrow.Author.Tests.{le-leb, lt-leb, leb-true, ltb-true, ltb-false}
use Rattle.std.specs.Prelude.{None}
use Rattle.array.specs.Lists.{from, All}
use Rattle.array.specs.Shape.{volume}
use Rattle.array.specs.Subset.{Subset, pairs, SubsetOk, rows, cells_in}
use Rattle.array.proofs.Lists.{All-append}
use Rattle.array.proofs.SubsetLaws.{cells_in_below}
use Rattle.valid.proofs.ShapeLaws.{volume_some}
use Rattle.migrate_cells.specs.Place.{later, place_in, apart_test}
use Rattle.migrate_cells.proofs.Places.{rows_out, rows_in}

-- ---- one side: rows of v cells, of which those from a on, n of them, are looked in

module _ (v a n : ℕ) (ks : List ℕ) (below : All (λ k. k < v) ks) where
  abbrev Nowhere : ℕ → Type 0
  Nowhere j = place_in (rows v (from a n) ks) j ≡ None

  -- another row
  row_out : (i : ℕ) → ((k : ℕ) → a ≤ k → k < a + n → k ≢ i) → (js : List ℕ) → All (λ j. j < v) js → All (λ j. Nowhere (i * v + j)) js
  row_out i g [] l = tt
  row_out i g (j ∷ js) l = (rows_out v j l.0 ks below i a n g, row_out i g js l.1)

  -- a row whose places are none of those that are looked in
  row_none : (i : ℕ) (js : List ℕ) → All (λ j. j < v) js → All (λ j. place_in ks j ≡ None) js → All (λ j. Nowhere (i * v + j)) js
  row_none i [] l e = tt
  row_none i (j ∷ js) l e = (go (ltb i a) (ltb i (a + n)) refl refl, row_none i js l.1 e.1)
    where
      go : (s t : Bool) → ltb i a ≡ s → ltb i (a + n) ≡ t → Nowhere (i * v + j)
      go true t p q = let h : i < a = ltb-true i a p in rows_out v j l.0 ks below i a n (λ k m r z. omega arith)
      go false false p q = let h : a + n ≤ i = ltb-false i (a + n) q in rows_out v j l.0 ks below i a n (λ k m r z. omega arith)
      go false true p q = rows_in v j l.0 ks below i a n (ltb-false i a p) (ltb-true i (a + n) q) ∙ ap (later ((i - a) * length ks)) e.0

  of_row : (i : ℕ) (js : List ℕ) → All (λ j. Nowhere (i * v + j)) js → All Nowhere (map (λ j. i * v + j) js)
  of_row i [] q = tt
  of_row i (j ∷ js) q = (q.0, of_row i js q.1)

  of_rows : (js : List ℕ) (b m : ℕ) → ((i : ℕ) → b ≤ i → i < b + m → All (λ j. Nowhere (i * v + j)) js) → All Nowhere (rows v (from b m) js)
  of_rows js b zero q = tt
  of_rows js b (suc m) q =
      All-append Nowhere (map (λ j. b * v + j) js) (rows v (from (suc b) m) js) (of_row b js (q b (omega arith) (omega arith)))
      (of_rows js (suc b) m (λ i l h. q i (omega arith) (omega arith)))

-- ---- the subsets

pub apart_none : (sh : List ℕ) (a b : Subset) → SubsetOk sh a → SubsetOk sh b → apart_test a b ≡ true → All (λ j. place_in (cells_in sh a) j ≡ None) (cells_in sh b)
apart_none [] [] b p q e = absurd (no e)
  where
    no : false ≡ true → ⊥
    no z = cc
apart_none [] (x ∷ a) b p q e = absurd p
apart_none (s ∷ sh) [] b p q e = absurd p
apart_none (s ∷ sh) (x ∷ a) [] p q e = absurd q
apart_none (s ∷ sh) (x ∷ a) (y ∷ b) p q e = go (leb (x.0 + x.1) y.0) (leb (y.0 + y.1) x.0) (apart_test a b) refl refl refl e (λ f. apart_none sh a b p.1 q.1 f)
  where
    v : ℕ
    v = volume sh

    go : (f g h : Bool) → leb (x.0 + x.1) y.0 ≡ f → leb (y.0 + y.1) x.0 ≡ g → apart_test a b ≡ h → f || g || h ≡ true
        → (apart_test a b ≡ true → All (λ j. place_in (cells_in sh a) j ≡ None) (cells_in sh b))
        → All (λ j. place_in (rows (volume sh) (from x.0 x.1) (cells_in sh a)) j ≡ None) (rows (volume sh) (from y.0 y.1) (cells_in sh b))
    go true g h k l m r ih =
        let ends : x.0 + x.1 ≤ y.0 = leb-true (x.0 + x.1) y.0 k in
        of_rows (volume sh) x.0 x.1 (cells_in sh a) (cells_in_below sh a p.1) (cells_in sh b) y.0 y.1
        (λ i t u. row_out (volume sh) x.0 x.1 (cells_in sh a) (cells_in_below sh a p.1) i (λ w c d z. omega arith) (cells_in sh b) (cells_in_below sh b q.1))
    go false true h k l m r ih =
        let ends : y.0 + y.1 ≤ x.0 = leb-true (y.0 + y.1) x.0 l in
        of_rows (volume sh) x.0 x.1 (cells_in sh a) (cells_in_below sh a p.1) (cells_in sh b) y.0 y.1
        (λ i t u. row_out (volume sh) x.0 x.1 (cells_in sh a) (cells_in_below sh a p.1) i (λ w c d z. omega arith) (cells_in sh b) (cells_in_below sh b q.1))
    go false false true k l m r ih =
        of_rows (volume sh) x.0 x.1 (cells_in sh a) (cells_in_below sh a p.1) (cells_in sh b) y.0 y.1
        (λ i t u. row_none (volume sh) x.0 x.1 (cells_in sh a) (cells_in_below sh a p.1) i (cells_in sh b) (cells_in_below sh b q.1) (ih m))
    go false false false k l m r ih = absurd (no r)
      where
        no : false ≡ true → ⊥
        no z = cc

-- where a side of a subset ends
pub side_end : (sh st ls : List ℕ) (k : ℕ) → All (λ s. 1 ≤ s) sh → SubsetOk sh (pairs st ls) → length st ≡ length sh → length ls ≡ length sh → k < length sh
    → get_or st k 0 + get_or ls k 0 ≤ volume sh
side_end [] st ls k o p d e h = absurd (omega arith)
side_end (s ∷ sh) [] ls k o p d e h = absurd (omega arith)
side_end (s ∷ sh) (a ∷ st) [] k o p d e h = absurd (omega arith)
side_end (s ∷ sh) (a ∷ st) (n ∷ ls) zero o p d e h = omega (arith, p.0, mul-le-mul_left s (volume_some sh o.1), mul-one s)
side_end (s ∷ sh) (a ∷ st) (n ∷ ls) (suc k) o p d e h =
    omega (arith, side_end sh st ls k o.1 p.1 (omega arith) (omega arith) (omega arith), mul-le-mul_right (volume sh) o.0, one-mul (volume sh))

-- ---- the loop: no side before k is apart

pub record Meeting (st ls st' ls' : List ℕ) (k : ℕ) : Type 0 where
  pub same : apart_test (pairs st ls) (pairs st' ls') ≡ apart_test (pairs (drop k st) (drop k ls)) (pairs (drop k st') (drop k ls'))

module _ {st ls st' ls' : List ℕ} {k : ℕ} (c : Meeting st ls st' ls' k) (el : length ls ≡ length st) (es : length st' ≡ length st) (em : length ls' ≡ length st) where
  pub meeting_ends : length st ≤ k → false ≡ apart_test (pairs st ls) (pairs st' ls')
  meeting_ends h =
      let none : drop k st ≡ [] = drop_of_length-le st h in
      sym (c.same ∙ ap (λ (x : List ℕ). apart_test (pairs x (drop k ls)) (pairs (drop k st') (drop k ls'))) none)

  module _ (h : k < length st) where
    next : (xs : List ℕ) → k < length xs → drop k xs ≡ get_or xs k 0 ∷ drop (k + 1) xs
    next xs l = drop-cons xs k 0 l ∙ ap (λ (i : ℕ). get_or xs k 0 ∷ drop i xs) (sym (add-one k))

    abbrev later_sides : Bool
    later_sides = apart_test (pairs (drop (k + 1) st) (drop (k + 1) ls)) (pairs (drop (k + 1) st') (drop (k + 1) ls'))

    here : {f g : Bool} → leb (get_or st k 0 + get_or ls k 0) (get_or st' k 0) ≡ f → leb (get_or st' k 0 + get_or ls' k 0) (get_or st k 0) ≡ g
        → apart_test (pairs st ls) (pairs st' ls') ≡ f || g || later_sides
    here e e' =
        c.same ∙ ap₂ apart_test (ap₂ pairs (next st h) (next ls (omega (arith, el)))) (ap₂ pairs (next st' (omega (arith, es))) (next ls' (omega (arith, em))))
        ∙ ap₂ (λ (x y : Bool). x || y || later_sides) e e'

    pub meeting_first : get_or st k 0 + get_or ls k 0 ≤ get_or st' k 0 → true ≡ apart_test (pairs st ls) (pairs st' ls')
    meeting_first l = sym (here (le-leb (get_or st k 0 + get_or ls k 0) (get_or st' k 0) l) refl)

    module _ (m : get_or st' k 0 < get_or st k 0 + get_or ls k 0) where
      pub meeting_second : get_or st' k 0 + get_or ls' k 0 ≤ get_or st k 0 → true ≡ apart_test (pairs st ls) (pairs st' ls')
      meeting_second l = sym (here (lt-leb (get_or st k 0 + get_or ls k 0) (get_or st' k 0) m) (le-leb (get_or st' k 0 + get_or ls' k 0) (get_or st k 0) l))

      pub meeting_more : get_or st k 0 < get_or st' k 0 + get_or ls' k 0 → Meeting st ls st' ls' (k + 1)
      meeting_more l =
          record { same = here (lt-leb (get_or st k 0 + get_or ls k 0) (get_or st' k 0) m) (lt-leb (get_or st' k 0 + get_or ls' k 0) (get_or st k 0) l) }
