-- Storing one part of each chunk of a list: the loop over the subsets.
-- Assumes nothing.
use mathlib.Core.Path.{◌≡◌, ap, ap₂, ◌∙◌}
use Prim.Native.Nat.{ℕ, ◌+◌, ◌*◌, ◌≤◌}
use native.Mathlib.Nat.{add-mul, mul-add, mul-le-mul_left}
use native.Mathlib.Omega.{arith}
use mathlib.Core.List.{List, ◌∷◌, ◌++◌}
use lib.ListN.{length, take, drop, length-drop}
use lib.Seq.{drop-drop}
use Rattle.array.specs.Subset.{Subset, pairs, cells_in}
use Rattle.array.specs.Places.{fixed_at}
use Rattle.array.proofs.Places.{fixed_total}
use Rattle.subset.specs.Walk.{SubsetAsked}
use Rattle.subset.proofs.Rows.{asked_count, asked_volume}
use Rattle.merge_stores.specs.Scatter.{scatter, places}
use Rattle.merge_stores.specs.Store.{parts, cells_total, StoreAsked, PartsAsked}
use Rattle.merge_stores.proofs.ListStored.{ListStored, list_begins, list_more}
use Rattle.merge_stores.proofs.Scattering.{length-places}

-- the parts of the chunks that are left lie from `pos` on
pub record StoreAll (sh : List ℕ) (bs : List Subset) (d : List ℕ) (base size : ℕ) (src : List ℕ) (lead step : ℕ) (o : List ℕ) (rest : List Subset) (pos : ℕ) : Type 0 where
  pub list : ListStored (fixed_at base size) sh bs d (parts lead step size bs src) o (parts lead step size rest (drop pos src)) rest
  pub enough : pos + cells_total rest * step ≤ length src

module _ {sh : List ℕ} {bs : List Subset} {d : List ℕ} {base size : ℕ} {src : List ℕ} {lead step : ℕ} (q : PartsAsked sh bs d base size src lead step) where
  pub all_begins : StoreAll sh bs d base size src lead step d bs 0
  all_begins = record {
    list = list_begins (fixed_at base size) d (parts lead step size bs src);
    enough = omega (arith, q.enough);
  }

  module _ {o : List ℕ} {rest : List Subset} {pos : ℕ} (c : StoreAll sh bs d base size src lead step o rest pos)
      {starts lens : List ℕ} {later : List Subset} (t : rest ≡ pairs starts lens ∷ later) {m : ℕ} (a : SubsetAsked sh starts lens m) where
    total : cells_total rest ≡ m + cells_total later
    total = ap cells_total t ∙ ap (λ (k : ℕ). k + cells_total later) (asked_volume a)

    -- the chunk lies in what is left
    pub all_room : pos + m * step + cells_total later * step ≤ length src
    all_room = omega (arith, c.enough, ap (λ (k : ℕ). k * step) total, add-mul m (cells_total later) step)

    pub part_room : pos + m * lead + m * size ≤ length src
    part_room = omega (arith, all_room, mul-add m lead size, mul-le-mul_left {m = lead + size} {n = step} m q.inner)

    pub all_asked : StoreAsked sh o base size src (pos + m * lead) m
    all_asked = record { narrow = q.narrow; room = omega (arith, q.room, c.list.long); enough = part_room }

    split : parts lead step size rest (drop pos src) ≡ take (m * size) (drop (pos + m * lead) src) ++ parts lead step size later (drop (pos + m * step) src)
    split =
        ap (λ (bs : List Subset). parts lead step size bs (drop pos src)) t
        ∙ ap (λ (k : ℕ). take (k * size) (drop (k * lead) (drop pos src)) ++ parts lead step size later (drop (k * step) (drop pos src))) (asked_volume a)
        ∙ ap₂ (λ (x y : List ℕ). take (m * size) x ++ parts lead step size later y) (drop-drop (m * lead) pos src) (drop-drop (m * step) pos src)

    pub all_more : {o' : List ℕ} → o' ≡ scatter o (places (fixed_at base size) (cells_in sh (pairs starts lens))) (drop (pos + m * lead) src)
        → StoreAll sh bs d base size src lead step o' later (pos + m * step)
    all_more p =
        let cs : List ℕ = cells_in sh (pairs starts lens) in
        record {
          list =
              list_more c.list t (drop (pos + m * lead) src) (length-places (fixed_at base size) cs ∙ fixed_total base size cs ∙ ap (λ (k : ℕ). k * size) (asked_count a))
              (omega (arith, part_room, length-drop (pos + m * lead) src)) split p;
          enough = all_room;
        }
