-- The cells that a cut takes of all chunks, put back at their places, are the cut.
-- Assumes nothing.
use mathlib.Core.Path.{◌≡◌, refl, sym, ap, ap₂, ◌∙◌}
use Prim.Native.Nat.{ℕ, suc, ◌+◌, ◌<◌, ◌≤◌}
use native.Mathlib.Nat.{add-zero, zero-add}
use native.Mathlib.Omega.{arith}
use mathlib.Core.Bool.{Bool, true, false}
use mathlib.Core.List.{List, [], ◌∷◌, map}
use lib.ListN.{length, get_or, take, drop, length-map}
use lib.Dec.{eqb}
use lib.Seq.{split_at}
use borrow.Author.Tests.{eq-eqb, eqb-true}
use Rattle.std.specs.Prelude.{Option, None, Some}
use Rattle.array.specs.Lists.{from, pick, All, count}
use Rattle.array.specs.Cells.{Value}
use Rattle.array.specs.Shape.{volume}
use Rattle.array.specs.Subset.{Subset, SubsetOk, cells_in, coordinates, inside_test}
use Rattle.array.proofs.Geometry.{count_cells}
use Rattle.array.proofs.Lists.{map-map, map-from, at_from, All-at, length_from_lem}
use Rattle.array.proofs.Sums.{count-append}
use Rattle.array.proofs.SubsetLaws.{cells_in_below}
use Rattle.chunks.specs.Gather.{gather, lookup, put_back, Once}
use Rattle.chunks.proofs.Gather.{gather_all, lookup_at}
use Rattle.migrate_cells.specs.Place.{later, place_in}
use Rattle.migrate_cells.proofs.Places.{later_zero, same_eqb, place_there}
use Rattle.migrate_extract.specs.Asked.{with_place, with_value, places_asked, values_asked}

-- ---- the place of a number that stands once in the list

-- a number that stands in it is counted
count_there : (xs : List ℕ) (p : ℕ) → p < length xs → 1 ≤ count (get_or xs p 0) xs
count_there xs p h =
    let x : ℕ = get_or xs p 0 in
    let behind : List ℕ = drop (suc p) xs in
    omega (
      arith,
      ap (count x) (split_at xs p 0 h),
      count-append x (take p xs) (x ∷ behind),
      ap (λ (b : Bool). pick b (suc (count x behind)) (count x behind)) (eq-eqb x x refl),
    )

place_lookup : (xs : List ℕ) (a j : ℕ) → lookup None j xs (map Some (from a (length xs))) ≡ later a (place_in xs j)
place_lookup [] a j = refl
place_lookup (x ∷ xs) a j = go (eqb j x) (place_in xs j) (place_lookup xs (suc a) j)
  where
    go : (b : Bool) (o : Option ℕ) → lookup None j xs (map Some (from (suc a) (length xs))) ≡ later (suc a) o
        → pick b (Some a) (lookup None j xs (map Some (from (suc a) (length xs)))) ≡ later a (pick b (Some 0) (later 1 o))
    go true o ih = ap Some (sym (add-zero a))
    go false None ih = ih
    go false (Some q) ih = let e : suc a + q ≡ a + (1 + q) = omega arith in ih ∙ ap Some e

pub place_at : (xs : List ℕ) (p : ℕ) → p < length xs → count (get_or xs p 0) xs ≡ 1 → place_in xs (get_or xs p 0) ≡ Some p
place_at xs p h o =
    let n : ℕ = length xs in
    let j : ℕ = get_or xs p 0 in
    sym (later_zero (place_in xs j)) ∙ sym (place_lookup xs 0 j)
    ∙ lookup_at None xs (map Some (from 0 n)) p (sym (length-map (from 0 n) Some ∙ length_from_lem 0 n)) h o
    ∙ at_from None Some n 0 p h ∙ ap Some (zero-add p)

-- ---- the cells that are asked for

module _ (as' : List ℕ) where
  abbrev f : ℕ → Option ℕ
  f = place_in as'

  module _ (p : ℕ) (here : f (get_or as' p 0) ≡ Some p) where
    -- a cell has the place p just where it is the cell there
    same_cell : (j q : ℕ) → f j ≡ Some q → eqb p q ≡ eqb (get_or as' p 0) j
    same_cell j q e =
        same_eqb p q (get_or as' p 0) j (λ r. ap (λ (k : ℕ). get_or as' k 0) r ∙ (place_there as' j q e).1)
        (λ r. given (sym here ∙ ap f r ∙ e))
      where
        given : ◌≡◌ {A = Option ℕ} (Some p) (Some q) → p ≡ q
        given r = cc

    other_cell : (j : ℕ) → f j ≡ None → eqb (get_or as' p 0) j ≡ false
    other_cell j e = go (eqb (get_or as' p 0) j) refl
      where
        no : ◌≡◌ {A = Option ℕ} (Some p) None → ⊥
        no r = cc

        go : (b : Bool) → eqb (get_or as' p 0) j ≡ b → b ≡ false
        go true r = absurd (no (sym here ∙ ap f (eqb-true (get_or as' p 0) j r) ∙ e))
        go false r = refl

    count_asked : (js : List ℕ) → count p (places_asked f js) ≡ count (get_or as' p 0) js
    count_asked [] = refl
    count_asked (j ∷ js) = go (f j) refl (count_asked js)
      where
        go : (o : Option ℕ) → f j ≡ o → count p (places_asked f js) ≡ count (get_or as' p 0) js
            → count p (with_place o (places_asked f js)) ≡ count (get_or as' p 0) (j ∷ js)
        go None e ih = ih ∙ ap (λ (b : Bool). pick b (suc (count (get_or as' p 0) js)) (count (get_or as' p 0) js)) (sym (other_cell j e))
        go (Some q) e ih = ap₂ (λ (b : Bool) (k : ℕ). pick b (suc k) k) (same_cell j q e) ih

    lookup_asked : (js : List ℕ) (vs : List Value) → lookup [] p (places_asked f js) (values_asked f js vs) ≡ lookup [] (get_or as' p 0) js vs
    lookup_asked [] vs = refl
    lookup_asked (j ∷ js) [] = go (f j)
      where
        none : (ps : List ℕ) → lookup {A = Value} [] p ps [] ≡ []
        none [] = refl
        none (q ∷ ps) = refl

        go : (o : Option ℕ) → lookup {A = Value} [] p (with_place o (places_asked f js)) [] ≡ []
        go o = none (with_place o (places_asked f js))
    lookup_asked (j ∷ js) (v ∷ vs) = go (f j) refl (lookup_asked js vs)
      where
        go : (o : Option ℕ) → f j ≡ o → lookup [] p (places_asked f js) (values_asked f js vs) ≡ lookup [] (get_or as' p 0) js vs
            → lookup [] p (with_place o (places_asked f js)) (with_value o v (values_asked f js vs)) ≡ lookup [] (get_or as' p 0) (j ∷ js) (v ∷ vs)
        go None e ih = ih ∙ ap (λ (b : Bool). pick b v (lookup [] (get_or as' p 0) js vs)) (sym (other_cell j e))
        go (Some q) e ih = ap₂ (λ (b : Bool) (w : Value). pick b v w) (same_cell j q e) ih

  pub places_below : (js : List ℕ) → All (λ p. p < length as') (places_asked f js)
  places_below [] = tt
  places_below (j ∷ js) = go (f j) refl (places_below js)
    where
      go : (o : Option ℕ) → f j ≡ o → All (λ p. p < length as') (places_asked f js) → All (λ p. p < length as') (with_place o (places_asked f js))
      go None e ih = ih
      go (Some q) e ih = ((place_there as' j q e).0, ih)

  pub as_many_asked : (js : List ℕ) (vs : List Value) → length js ≡ length vs → length (places_asked f js) ≡ length (values_asked f js vs)
  as_many_asked [] vs e = refl
  as_many_asked (j ∷ js) [] e = absurd (omega arith)
  as_many_asked (j ∷ js) (v ∷ vs) e = go (f j) (as_many_asked js vs (omega arith))
    where
      go : (o : Option ℕ) → length (places_asked f js) ≡ length (values_asked f js vs) → length (with_place o (places_asked f js)) ≡ length (with_value o v (values_asked f js vs))
      go None ih = ih
      go (Some q) ih = ap suc ih

-- ---- all cells of the chunks, each of which stands once

module _ (shape : List ℕ) (b : Subset) (ok : SubsetOk shape b) (all : List ℕ) (once : Once (volume shape) all) where
  abbrev cut : List ℕ
  cut = cells_in shape b

  abbrev at : ℕ → ℕ
  at p = get_or cut p 0

  cut_below : (p : ℕ) → p < length cut → at p < volume shape
  cut_below p h = All-at (λ j. j < volume shape) 0 cut (cells_in_below shape b ok) p h

  here : (p : ℕ) → p < length cut → place_in cut (at p) ≡ Some p
  here p h = place_at cut p h (go (inside_test b (coordinates shape (at p))) (count_cells shape b ok (at p) (cut_below p h)) (count_there cut p h))
    where
      go : (t : Bool) → count (at p) cut ≡ pick t 1 0 → 1 ≤ count (at p) cut → count (at p) cut ≡ 1
      go true e l = e
      go false e l = absurd (omega arith)

  pub once_asked : Once (length cut) (places_asked (place_in cut) all)
  once_asked p h = count_asked cut p (here p h) all ∙ once (at p) (cut_below p h)

  pub cut_is : (vs : List Value) → put_back [] (length cut) (places_asked (place_in cut) all) (values_asked (place_in cut) all vs) ≡ gather [] (put_back [] (volume shape) all vs) cut
  cut_is vs =
      let back : List Value = put_back [] (volume shape) all vs in
      map-from (λ p. lookup [] p (places_asked (place_in cut) all) (values_asked (place_in cut) all vs)) (λ p. get_or back (at p) []) 0 (length cut)
      (λ p h. let l : p < length cut = omega arith in lookup_asked cut p (here p l) all vs
      ∙ sym (at_from [] (λ i. lookup [] i all vs) (volume shape) 0 (at p) (cut_below p l) ∙ ap (λ (k : ℕ). lookup [] k all vs) (zero-add (at p))))
      ∙ sym (map-map at (λ j. get_or back j []) (from 0 (length cut)))
      ∙ ap (map (λ j. get_or back j [])) (gather_all 0 cut)
