-- The walk over the chunks: what holds at its head, a turn of it, and its ends; and the reader of moved chunks.
-- Assumes nothing.
use mathlib.Core.Path.{◌≡◌, refl, sym, ap, ap₂, ◌∙◌}
use mathlib.Core.Logic.{◌≢◌}
use Prim.Native.Nat.{ℕ, ◌+◌, ◌≤◌}
use native.Mathlib.Omega.{arith}
use mathlib.Core.Bool.{Bool, true, false}
use mathlib.Core.List.{List, [], ◌∷◌, ◌++◌, append_assoc}
use lib.Dec.{ltb}
use borrow.Author.Tests.{ltb-true, ltb-false}
use lib.ListN.{length, get_or, get_or-append, length-append}
use Rattle.std.proofs.lemmas.List.{get_or_past, get_or_push}
use Rattle.array.specs.Answer.{Answer, gives, refuses, and_then, map_answer}
use Rattle.array.specs.Kind.{at_start}
use Rattle.array.specs.Subset.{Subset, pairs}
use Rattle.array.specs.Cells.{Value}
use Rattle.array.specs.Content.{RaggedContent}
use Rattle.array.specs.Offsets.{last, slices}
use Rattle.array.proofs.Answers.{went_on, same_given}
use Rattle.array.proofs.Offsets.{joined-slices_all}
use Rattle.subset.specs.Walk.{SubsetAsked}
use Rattle.subset.proofs.Rows.{asked_volume}
use Rattle.codec.specs.Ragged.{get_ragged}
use Rattle.codec.specs.Values.{get_values}
use Rattle.codec.proofs.Accepted.{ragged_ok}
use Rattle.decode_interleaved.specs.Walk.{total_of}
use Rattle.stored_index.specs.declared.Index.{Index}
use Rattle.stored_index.specs.Index.{checked_in, located}
use Rattle.migrate.specs.Live.{Stored, newer, read_stored, read_chunks}
use Rattle.migrate_check.specs.Chunks.{bytes_at}

-- ---- the reader of moved chunks: the last offset is the number of value bytes

abbrev pub last_of : Index → ℕ
last_of i = i.last

abbrev values_of : RaggedContent → List Value
values_of c = slices c.offsets c.values

pub newer_read : (s : List ℕ) (n : ℕ) → map_answer last_of (checked_in 8 at_start s 0 n) ≡ map_answer total_of (read_stored (newer s) n)
unfolding checked_in read_stored get_values
newer_read s n = go (get_ragged 8 at_start s n) refl
  where
    go : (a : Answer RaggedContent) → get_ragged 8 at_start s n ≡ a
        → map_answer last_of (map_answer (located 8 at_start s 0 n) (map_answer (λ (c : RaggedContent). last c.offsets) a)) ≡ map_answer total_of (map_answer values_of a)
    go (gives c) e =
        let ok = ragged_ok 8 at_start s n c e in
        ap gives (ok.2 ∙ sym (ap length (joined-slices_all n c.offsets c.values ok.0 ok.1 ok.2)))
    go (refuses k) e = refl

-- ---- the walk

-- with values before those that are read
abbrev behind : List (List Value) → Answer (List (List Value)) → Answer (List (List Value))
behind done a = map_answer (λ vss. done ++ vss) a

-- k chunks are read, the others are left, and that of number m has so many bytes, if it is read
pub record Walked (m : ℕ) (bs : List Subset) (cs : List Stored) (rest : List Subset) (left : List Stored) (k bytes : ℕ) : Type 0 where
  pub done : List (List Value)
  pub number : length done ≡ k
  pub bytes_are : bytes ≡ bytes_at m done
  pub same : read_chunks bs cs ≡ behind done (read_chunks rest left)

pub walk_begins : (m : ℕ) (bs : List Subset) (cs : List Stored) → Walked m bs cs bs cs 0 0
walk_begins m bs cs = record { done = []; number = refl; bytes_are = ap total_of (sym (get_or_past [] m [] (omega arith))); same = go (read_chunks bs cs) }
  where
    go : (a : Answer (List (List Value))) → a ≡ behind [] a
    go (gives vss) = refl
    go (refuses k) = refl

module _ {m : ℕ} {bs : List Subset} {cs : List Stored} {rest : List Subset} {left : List Stored} {k bytes : ℕ} (w : Walked m bs cs rest left k bytes) where
  abbrev whole : Answer ℕ
  whole = map_answer (bytes_at m) (read_chunks bs cs)

  -- ---- all chunks are read

  pub walk_ends : rest ≡ [] → gives bytes ≡ whole
  unfolding read_chunks
  walk_ends e =
      ap gives (w.bytes_are ∙ ap (bytes_at m) (sym (add_none w.done)))
      ∙ sym (ap (map_answer (bytes_at m)) (w.same ∙ ap (λ (r : List Subset). behind w.done (read_chunks r left)) e))
    where
      add_none : (vss : List (List Value)) → vss ++ [] ≡ vss
      add_none [] = refl
      add_none (vs ∷ vss) = ap (λ (r : List (List Value)). vs ∷ r) (add_none vss)

  -- ---- the first of the chunks that are left

  module _ {sh starts lens : List ℕ} {later : List Subset} (s : rest ≡ pairs starts lens ∷ later) {n : ℕ} (a : SubsetAsked sh starts lens n)
      {c : Stored} {others : List Stored} (f : left ≡ c ∷ others) where
    abbrev onward : List Value → Answer (List (List Value))
    onward vs = and_then (read_chunks later others) (λ vss. gives (vs ∷ vss))

    turn : read_chunks bs cs ≡ behind w.done (and_then (read_stored c n) onward)
    unfolding read_chunks
    turn =
        w.same ∙ ap₂ (λ (r : List Subset) (l : List Stored). behind w.done (read_chunks r l)) s f
        ∙ ap (λ (i : ℕ). behind w.done (and_then (read_stored c i) onward)) (asked_volume a)

    pub walk_refused : (e : ℕ) → refuses e ≡ map_answer total_of (read_stored c n) → refuses e ≡ whole
    walk_refused e r = go (read_stored c n) r ∙ sym (ap (map_answer (bytes_at m)) turn)
      where
        go : (x : Answer (List Value)) → refuses e ≡ map_answer total_of x → refuses e ≡ map_answer (bytes_at m) (behind w.done (and_then x onward))
        go (gives vs) p = cc
        go (refuses j) p = p

    module _ {found : ℕ} (r : gives found ≡ map_answer total_of (read_stored c n)) where
      -- its values
      read : (vs : List Value) × ((read_stored c n ≡ gives vs) × (total_of vs ≡ found))
      read = let g = went_on (read_stored c n) (λ vs. gives (total_of vs)) (sym r) in (g.0, (g.1.0, same_given g.1.1))

      more : read_chunks bs cs ≡ behind (w.done ++ (read.0 ∷ [])) (read_chunks later others)
      more = turn ∙ ap (λ (x : Answer (List Value)). behind w.done (and_then x onward)) read.1.0 ∙ go (read_chunks later others)
        where
          go : (x : Answer (List (List Value))) → behind w.done (and_then x (λ vss. gives (read.0 ∷ vss))) ≡ behind (w.done ++ (read.0 ∷ [])) x
          go (gives vss) = ap gives (sym (append_assoc w.done (read.0 ∷ []) vss))
          go (refuses j) = refl

      longer : length (w.done ++ (read.0 ∷ [])) ≡ k + 1
      longer = length-append w.done (read.0 ∷ []) ∙ ap (λ (i : ℕ). i + 1) w.number

      -- it is the one that is asked for
      pub walk_this : k ≡ m → Walked m bs cs later others (k + 1) found
      walk_this e = record {
        done = w.done ++ (read.0 ∷ []);
        number = longer;
        bytes_are = sym (ap total_of (get_or_push w.done read.0 [] m (w.number ∙ e)) ∙ read.1.1);
        same = more;
      }

      -- or another
      pub walk_other : k ≢ m → Walked m bs cs later others (k + 1) bytes
      walk_other e = record { done = w.done ++ (read.0 ∷ []); number = longer; bytes_are = w.bytes_are ∙ ap total_of kept; same = more }
        where
          kept : get_or w.done m [] ≡ get_or (w.done ++ (read.0 ∷ [])) m []
          kept = go (ltb m (length w.done)) refl
            where
              go : (b : Bool) → ltb m (length w.done) ≡ b → get_or w.done m [] ≡ get_or (w.done ++ (read.0 ∷ [])) m []
              go true t = sym (get_or-append w.done (read.0 ∷ []) [] m (ltb-true m (length w.done) t))
              go false t =
                  let beyond : length w.done ≤ m = ltb-false m (length w.done) t in
                  get_or_past w.done m [] beyond ∙ sym (get_or_past (w.done ++ (read.0 ∷ [])) m [] (omega (arith, longer, w.number, e)))
