-- Storing the lengths of all chunks' ragged values: the loop over the subsets.
-- Assumes nothing.
use mathlib.Core.Path.{◌≡◌, sym, ap, ap₂, ◌∙◌, subst}
use Prim.Native.Nat.{ℕ, suc, ◌+◌, ◌<◌}
use native.Mathlib.Nat.{mul-one}
use native.Mathlib.Omega.{arith}
use mathlib.Core.List.{List, ◌∷◌, ◌++◌, map}
use lib.ListN.{length, take, drop, length-drop}
use lib.Seq.{drop-drop, get_or-drop, take_all}
use Rattle.array.specs.Lists.{from}
use Rattle.array.specs.Offsets.{Rising}
use Rattle.array.specs.Subset.{Subset, pairs, cells_in}
use Rattle.array.specs.Places.{fixed_at, offset_at, step_at, steps_at}
use Rattle.array.proofs.Lists.{at_from, by_number}
use Rattle.array.proofs.Places.{fixed_total}
use Rattle.subset.specs.Walk.{SubsetAsked}
use Rattle.subset.proofs.Rows.{asked_count, asked_volume}
use Rattle.merge_stores.specs.Ragged.{step_parts, LengthsAsked, LengthChunks, LengthsAllAsked}
use Rattle.merge_stores.specs.Scatter.{scatter, places}
use Rattle.merge_stores.proofs.ListStored.{ListStored, list_begins, list_more}
use Rattle.merge_stores.proofs.RaggedMerge.{many_from}
use Rattle.merge_stores.proofs.RaggedTies.{rises_of}
use Rattle.merge_stores.proofs.Scattering.{length-places}

-- a chunk's lengths, by all offsets
steps_drop : (first : ℕ) (os : List ℕ) (m : ℕ) → steps_at (offset_at (drop first os)) (from 0 m) ≡ steps_at (offset_at os) (from first m)
steps_drop first os m =
    let f : ℕ → ℕ = step_at (offset_at os) in
    sym (by_number 0 (step_at (offset_at (drop first os))) (map f (from first m)) (many_from f first m) (λ i h.
    let e : first + suc i ≡ suc (first + i) = omega arith in
    omega (arith, at_from 0 f m first i h, get_or-drop first os i 0, get_or-drop first os (suc i) 0, ap (offset_at os) e)))

-- the offsets of the chunks that are left lie from `first` on
pub record LengthsAll (sh : List ℕ) (bs : List Subset) (d src o : List ℕ) (rest : List Subset) (first : ℕ) : Type 0 where
  pub list : ListStored (fixed_at 1 1) sh bs d (step_parts bs src) o (step_parts rest (drop first src)) rest
  pub chunks : LengthChunks rest (drop first src)

module _ {sh : List ℕ} {bs : List Subset} {d src : List ℕ} (q : LengthsAllAsked sh bs d src) where
  pub lengths_begin : LengthsAll sh bs d src d bs 0
  lengths_begin = record { list = list_begins (fixed_at 1 1) d (step_parts bs src); chunks = q.chunks }

  module _ {o : List ℕ} {rest : List Subset} {first : ℕ} (c : LengthsAll sh bs d src o rest first)
      {starts lens : List ℕ} {later : List Subset} (t : rest ≡ pairs starts lens ∷ later) {m : ℕ} (a : SubsetAsked sh starts lens m) where
    now : (m < length (drop first src)) × Rising (take (suc m) (drop first src)) × LengthChunks later (drop (suc m) (drop first src))
    now =
        subst (λ (k : ℕ). (k < length (drop first src)) × Rising (take (suc k) (drop first src)) × LengthChunks later (drop (suc k) (drop first src))) (asked_volume a)
        (subst (λ (bs : List Subset). LengthChunks bs (drop first src)) t c.chunks)

    pub lengths_indexed : first + m < length src
    lengths_indexed = omega (arith, now.0, length-drop first src)

    pub lengths_asked : LengthsAsked sh o src first m
    lengths_asked = record {
      rises = λ k l. omega (arith, rises_of m (drop first src) now.1 now.0 k l, get_or-drop first src k 0, get_or-drop first src (suc k) 0);
      indexed = lengths_indexed;
      room = omega (arith, q.room, c.list.long);
    }

    as_many : length (steps_at (offset_at src) (from first m)) ≡ m
    as_many = many_from (step_at (offset_at src)) first m

    behind : drop (suc m) (drop first src) ≡ drop (first + (m + 1)) src
    behind = let z : first + suc m ≡ first + (m + 1) = omega arith in drop-drop (suc m) first src ∙ ap (λ (x : ℕ). drop x src) z

    split : step_parts rest (drop first src) ≡ take m (steps_at (offset_at src) (from first m)) ++ step_parts later (drop (first + (m + 1)) src)
    split =
        ap (λ (bs : List Subset). step_parts bs (drop first src)) t
        ∙ ap (λ (k : ℕ). steps_at (offset_at (drop first src)) (from 0 k) ++ step_parts later (drop (suc k) (drop first src))) (asked_volume a)
        ∙ ap₂ (λ (x y : List ℕ). x ++ step_parts later y) (steps_drop first src m ∙ sym (take_all m (steps_at (offset_at src) (from first m)) (omega (arith, as_many)))) behind

    pub lengths_more : {o' : List ℕ} → o' ≡ scatter o (places (fixed_at 1 1) (cells_in sh (pairs starts lens))) (steps_at (offset_at src) (from first m))
        → LengthsAll sh bs d src o' later (first + (m + 1))
    lengths_more p =
        let cs : List ℕ = cells_in sh (pairs starts lens) in
        record {
          list =
              list_more c.list t (steps_at (offset_at src) (from first m)) (length-places (fixed_at 1 1) cs ∙ fixed_total 1 1 cs ∙ mul-one (length cs) ∙ asked_count a)
              (omega (arith, as_many)) split p;
          chunks = subst (LengthChunks later) behind now.2;
        }
