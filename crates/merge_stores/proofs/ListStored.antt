-- Storing the chunks of a list, whatever the width of a cell: what holds at the head of the loop over the subsets, and a turn of it.
-- Assumes nothing.
use mathlib.Core.Path.{◌≡◌, refl, sym, ap, ap₂, ◌∙◌}
use Prim.Native.Nat.{ℕ, ◌≤◌}
use mathlib.Core.List.{List, [], ◌∷◌, ◌++◌, append-nil}
use lib.ListN.{length, take, drop, take-append-drop}
use lib.Seq.{length-take-le}
use Rattle.array.specs.Subset.{Subset, cells_in, cells_of_all}
use Rattle.merge_stores.specs.Scatter.{scatter, places}
use Rattle.merge_stores.proofs.Scattering.{length-scatter, scatter_then, places-append}

-- what is beyond the places is not looked at
scatter_enough : (acc : List ℕ) (js xs : List ℕ) {n : ℕ} → length js ≡ n → n ≤ length xs → scatter acc js xs ≡ scatter acc js (take n xs)
scatter_enough acc js xs {n} e h =
    ap₂ (scatter acc) (sym (append-nil js)) (sym (take-append-drop n xs)) ∙ scatter_then acc js [] (take n xs) (drop n xs) (e ∙ sym (length-take-le n xs h))

-- the chunks before those of `rest` are stored: of all that is stored, xs, the others take ys
pub record ListStored (off : ℕ → ℕ) (sh : List ℕ) (bs : List Subset) (d xs o ys : List ℕ) (rest : List Subset) : Type 0 where
  pub long : length o ≡ length d
  pub same : scatter d (places off (cells_of_all sh bs)) xs ≡ scatter o (places off (cells_of_all sh rest)) ys

pub list_begins : (off : ℕ → ℕ) {sh : List ℕ} {bs : List Subset} (d xs : List ℕ) → ListStored off sh bs d xs d xs bs
list_begins off d xs = record { long = refl; same = refl }

module _ {off : ℕ → ℕ} {sh : List ℕ} {bs : List Subset} {d xs o ys : List ℕ} {rest : List Subset} (c : ListStored off sh bs d xs o ys rest) where
  pub list_ends : rest ≡ [] → o ≡ scatter d (places off (cells_of_all sh bs)) xs
  list_ends e = sym (c.same ∙ ap (λ (bs : List Subset). scatter o (places off (cells_of_all sh bs)) ys) e)

  module _ {b : Subset} {later : List Subset} (t : rest ≡ b ∷ later) where
    -- the places of the next chunk's cells, and of the others
    next_places : places off (cells_of_all sh rest) ≡ places off (cells_in sh b) ++ places off (cells_of_all sh later)
    next_places = ap (λ (bs : List Subset). places off (cells_of_all sh bs)) t ∙ places-append off (cells_in sh b) (cells_of_all sh later)

    -- the next chunk is the first n of zs
    module _ (zs : List ℕ) {n : ℕ} (l : length (places off (cells_in sh b)) ≡ n) (h : n ≤ length zs) {zs' : List ℕ} (e : ys ≡ take n zs ++ zs')
        {o' : List ℕ} (p : o' ≡ scatter o (places off (cells_in sh b)) zs) where
      pub list_more : ListStored off sh bs d xs o' zs' later
      list_more =
          let cs : List ℕ = cells_in sh b in
          let others : List ℕ = cells_of_all sh later in
          record {
            long = ap length p ∙ length-scatter o (places off cs) zs ∙ c.long;
            same =
                c.same ∙ ap₂ (scatter o) next_places e
                ∙ scatter_then o (places off cs) (places off others) (take n zs) zs' (l ∙ sym (length-take-le n zs h))
                ∙ ap (λ (x : List ℕ). scatter x (places off others) zs') (sym (p ∙ scatter_enough o (places off cs) zs l h));
          }
