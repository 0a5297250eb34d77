-- Storing the ragged values of all chunks: the loop over the subsets.
-- Assumes nothing.
use mathlib.Core.Path.{◌≡◌, sym, ap, ◌∙◌, subst}
use Prim.Native.Nat.{ℕ, suc, ◌+◌, ◌<◌, ◌≤◌}
use native.Mathlib.Omega.{arith}
use mathlib.Core.List.{List, ◌∷◌, ◌++◌}
use lib.ListN.{length, take, drop, length-drop, take-append-drop}
use lib.Seq.{drop-drop, get_or-drop, take_all}
use Rattle.array.specs.Subset.{Subset, cells_in, cells_of_all, pairs}
use Rattle.array.specs.Places.{offset_at, bytes_at}
use Rattle.array.proofs.Places.{bytes_append}
use Rattle.subset.specs.Walk.{SubsetAsked}
use Rattle.subset.proofs.Rows.{asked_count, asked_volume}
use Rattle.merge_stores.specs.Ragged.{Agrees, RaggedAsked, RaggedChunks, RaggedAllAsked}
use Rattle.merge_stores.specs.Scatter.{scatter, places}
use Rattle.merge_stores.proofs.ListStored.{ListStored, list_begins, list_more}
use Rattle.merge_stores.proofs.Scattering.{length-places}

-- the bytes of the chunks that are left lie from `base` on, their offsets from `first` on
pub record RaggedAll (sh : List ℕ) (bs : List Subset) (d begins values src o : List ℕ) (rest : List Subset) (base first : ℕ) : Type 0 where
  pub list : ListStored (offset_at begins) sh bs d values o (drop base values) rest
  pub chunks : RaggedChunks begins sh rest (drop first src)
  pub enough : base + bytes_at (offset_at begins) (cells_of_all sh rest) ≤ length values

module _ {sh : List ℕ} {bs : List Subset} {d begins values src : List ℕ} (q : RaggedAllAsked sh bs d begins values src) where
  pub raggeds_begin : RaggedAll sh bs d begins values src d bs 0 0
  raggeds_begin = record { list = list_begins (offset_at begins) d values; chunks = q.chunks; enough = omega (arith, q.enough) }

  module _ {o : List ℕ} {rest : List Subset} {base first : ℕ} (c : RaggedAll sh bs d begins values src o rest base first)
      {starts lens : List ℕ} {later : List Subset} (t : rest ≡ pairs starts lens ∷ later) {m : ℕ} (a : SubsetAsked sh starts lens m) where
    now : (m < length (drop first src)) × Agrees begins (drop first src) 0 (cells_in sh (pairs starts lens)) × RaggedChunks begins sh later (drop (suc m) (drop first src))
    now =
        subst (λ (k : ℕ). (k < length (drop first src)) × Agrees begins (drop first src) 0 (cells_in sh (pairs starts lens)) × RaggedChunks begins sh later (drop (suc k) (drop first src)))
        (asked_volume a) (subst (λ (bs : List Subset). RaggedChunks begins sh bs (drop first src)) t c.chunks)

    room : base + bytes_at (offset_at begins) (cells_in sh (pairs starts lens)) + bytes_at (offset_at begins) (cells_of_all sh later) ≤ length values
    room =
        omega (
          arith,
          c.enough,
          ap (λ (bs : List Subset). bytes_at (offset_at begins) (cells_of_all sh bs)) t,
          bytes_append (offset_at begins) (cells_in sh (pairs starts lens)) (cells_of_all sh later),
        )

    at_first : (k : ℕ) → offset_at (drop first src) (0 + k) ≡ offset_at src (first + k)
    at_first k = get_or-drop first src (0 + k) 0 ∙ ap (offset_at src) (omega arith)

    pub chunk_indexed : first + m < length src
    chunk_indexed = omega (arith, now.0, length-drop first src)

    -- the chunk's last offset says how many bytes it has
    bytes_now : bytes_at (offset_at begins) (cells_in sh (pairs starts lens)) ≡ offset_at src (first + m)
    bytes_now =
        let cs : List ℕ = cells_in sh (pairs starts lens) in
        ap (bytes_at (offset_at begins)) (sym (take_all (length cs) cs (omega arith))) ∙ now.1 (length cs) (omega arith) ∙ at_first (length cs)
        ∙ ap (λ (k : ℕ). offset_at src (first + k)) (asked_count a)

    pub chunk_enough : base + offset_at src (first + m) ≤ length values
    chunk_enough = omega (arith, room, bytes_now)

    pub ragged_asked : RaggedAsked sh o begins values base src first (cells_in sh (pairs starts lens))
    ragged_asked = record {
      laid = record { covered = q.laid.covered; rises = q.laid.rises; room = omega (arith, q.laid.room, c.list.long) };
      agrees = λ k l. now.1 k l ∙ at_first k;
      indexed = omega (arith, asked_count a, chunk_indexed);
      enough = omega (arith, room);
    }

    split : drop base values ≡ take (offset_at src (first + m)) (drop base values) ++ drop (base + offset_at src (first + m)) values
    split =
        sym (take-append-drop (offset_at src (first + m)) (drop base values))
        ∙ ap (λ (r : List ℕ). take (offset_at src (first + m)) (drop base values) ++ r) (drop-drop (offset_at src (first + m)) base values)

    pub raggeds_more : {o' : List ℕ} → o' ≡ scatter o (places (offset_at begins) (cells_in sh (pairs starts lens))) (drop base values)
        → RaggedAll sh bs d begins values src o' later (base + offset_at src (first + m)) (first + m + 1)
    raggeds_more p =
        let z : first + suc m ≡ first + m + 1 = omega arith in
        record {
          list = list_more c.list t (drop base values) (length-places (offset_at begins) (cells_in sh (pairs starts lens)) ∙ bytes_now) (omega (arith, chunk_enough, length-drop base values)) split p;
          chunks = subst (RaggedChunks begins sh later) (drop-drop (suc m) first src ∙ ap (λ (x : ℕ). drop x src) z) now.2;
          enough = omega (arith, room, bytes_now);
        }
