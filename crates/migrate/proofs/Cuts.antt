-- A cut gives the cells of its subset, each from the chunk that holds it (specs/Law).
-- Assumes nothing.
use mathlib.Core.Path.{◌≡◌, refl, sym, ap, ap₂, ◌∙◌}
use Prim.Native.Nat.{ℕ, zero, suc, ◌+◌, ◌<◌}
use native.Mathlib.Omega.{arith}
use mathlib.Core.Bool.{Bool, true}
use mathlib.Core.List.{List, [], ◌∷◌, ◌++◌, map}
use lib.ListN.{length, get_or, get_or-append, length-map, length-append}
use lib.Seq.{get_or-append-add}
use Rattle.array.specs.Answer.{Answer, gives, and_then}
use Rattle.array.specs.Lists.{joined, All}
use Rattle.array.specs.Shape.{volume}
use Rattle.array.specs.Subset.{Subset, lengths, SubsetOk, FullOk, cells_in, cells_of_all}
use Rattle.array.specs.Cells.{Value}
use Rattle.array.specs.Content.{unmasked}
use Rattle.array.specs.Buffers.{ragged_lengths_of, ragged_outcome}
use Rattle.array.specs.Places.{sum}
use Rattle.array.proofs.Answers.{went_on, same_given}
use Rattle.array.proofs.Lists.{All-map}
use Rattle.array.proofs.Rules.{numbers_test_lem}
use Rattle.array.proofs.LayoutLaws.{values_length_lem}
use Rattle.array.proofs.SubsetLaws.{length-cells_in, all_below}
use Rattle.codec.specs.Ragged.{get_ragged}
use Rattle.codec.specs.Values.{get_values}
use Rattle.codec.proofs.Accepted.{ragged_ok}
use Rattle.codec.proofs.Older.{older_read}
use Rattle.chunks.specs.Gather.{put_back}
use Rattle.chunks.proofs.Gather.{put_back_at}
use Rattle.migrate.specs.Live.{LiveTable, Stored, older, newer, new_form, read_stored, read_chunks, chunk_subsets, chunk_count, stored_chunks, chunk_values}
use Rattle.migrate.specs.Calls.{cut_or_refused, migrate_extract_answer, migrate_extract}
use Rattle.migrate.specs.Law.{cells_asked, cells_held, Cuts}
use Rattle.migrate.proofs.Live.{Sound, sound, stored_counted, chunks_counted}

-- ---- lists laid end to end: an element of one of them, by its place among all

-- element r of list q, by the lengths of the lists
abbrev place : List ℕ → ℕ → ℕ → ℕ
place [] q r = r
place (l ∷ ls) zero r = r
place (l ∷ ls) (suc q) r = l + place ls q r

module _ {A : Type 0} where
  length_all : (vs : List (List A)) → length (joined vs) ≡ sum (map length vs)
  length_all [] = refl
  length_all (v ∷ vs) = length-append v (joined vs) ∙ ap (λ (n : ℕ). length v + n) (length_all vs)

  place_within : (vs : List (List A)) (q r : ℕ) → q < length vs → r < length (get_or vs q []) → place (map length vs) q r < length (joined vs)
  place_within [] q r h l = absurd (omega arith)
  place_within (v ∷ vs) zero r h l = omega (arith, length-append v (joined vs))
  place_within (v ∷ vs) (suc q) r h l = omega (arith, length-append v (joined vs), place_within vs q r (omega arith) l)

  at_place : (z : A) (vs : List (List A)) (q r : ℕ) → q < length vs → r < length (get_or vs q []) → get_or (joined vs) (place (map length vs) q r) z ≡ get_or (get_or vs q []) r z
  at_place z [] q r h l = absurd (omega arith)
  at_place z (v ∷ vs) zero r h l = get_or-append v (joined vs) z r l
  at_place z (v ∷ vs) (suc q) r h l = get_or-append-add v (joined vs) (place (map length vs) q r) z ∙ at_place z vs q r (omega arith) l

-- an element of an image
mapped : {A B : Type 0} (f : A → B) (y : A) (z : B) (xs : List A) (i : ℕ) → i < length xs → get_or (map f xs) i z ≡ f (get_or xs i y)
mapped f y z [] i h = absurd (omega arith)
mapped f y z (x ∷ xs) zero h = refl
mapped f y z (x ∷ xs) (suc i) h = mapped f y z xs i (omega arith)

-- ---- the cells of the chunks, and the values that were read of them

abbrev held : List ℕ → List Subset → List (List ℕ)
held shape bs = map (cells_in shape) bs

held_all : (shape : List ℕ) (bs : List Subset) → cells_of_all shape bs ≡ joined (held shape bs)
held_all shape [] = refl
held_all shape (b ∷ bs) = ap (λ (r : List ℕ). cells_in shape b ++ r) (held_all shape bs)

held_lengths : (shape : List ℕ) (bs : List Subset) → All (SubsetOk shape) bs → map length (held shape bs) ≡ map (λ b. volume (lengths b)) bs
held_lengths shape [] p = refl
held_lengths shape (b ∷ bs) p = ap₂ (λ (n : ℕ) (r : List ℕ). n ∷ r) (length-cells_in shape b p.0) (held_lengths shape bs p.1)

-- each reader gives as many values as it was asked for
pub read_length : (c : Stored) (n : ℕ) {vs : List Value} → read_stored c n ≡ gives vs → length vs ≡ n
unfolding read_stored get_values
read_length (older s) n e = (older_read n s e).counted
read_length (newer s) n e =
    let g = went_on (get_ragged 8 _ s n) _ e in
    let ok = ragged_ok 8 _ s n g.0 g.1.0 in
    ap length (sym (same_given g.1.1)) ∙ values_length_lem new_form n (unmasked g.0) (ok.0, ok.1, ok.2)

read_lengths : (bs : List Subset) (cs : List Stored) (vss : List (List Value)) → length cs ≡ length bs → read_chunks bs cs ≡ gives vss
    → map length vss ≡ map (λ b. volume (lengths b)) bs
unfolding read_chunks
read_lengths [] cs vss l e = ap (map length) (sym (same_given e))
read_lengths (b ∷ bs) [] vss l e = absurd (omega arith)
read_lengths (b ∷ bs) (c ∷ cs) vss l e =
    let g = went_on (read_stored c (volume (lengths b))) (λ vs. and_then (read_chunks bs cs) (λ us. gives (vs ∷ us))) e in
    let k = went_on (read_chunks bs cs) (λ us. gives (g.0 ∷ us)) g.1.1 in
    ap (map length) (sym (same_given k.1.1)) ∙ ap₂ (λ (n : ℕ) (r : List ℕ). n ∷ r) (read_length c (volume (lengths b)) g.1.0) (read_lengths bs cs k.0 (omega arith) k.1.0)

-- ---- the cut

module _ {t : LiveTable} {vss : List (List Value)} (s : Sound t vss) where
  abbrev bs : List Subset
  bs = chunk_subsets t

  abbrev n : ℕ
  n = volume t.shape

  abbrev all : List ℕ
  all = cells_of_all t.shape bs

  pub within : All (SubsetOk t.shape) bs
  within = All-map (FullOk t.shape) (SubsetOk t.shape) (λ b p. p.fits) bs s.chunked.each

  same_lengths : map length vss ≡ map length (held t.shape bs)
  same_lengths = read_lengths bs (stored_chunks t) vss (stored_counted s) s.read ∙ sym (held_lengths t.shape bs within)

  pub as_many : length all ≡ length (joined vss)
  as_many = ap length (held_all t.shape bs) ∙ length_all (held t.shape bs) ∙ sym (ap sum same_lengths) ∙ sym (length_all vss)

  module _ (q r : ℕ) (hq : q < chunk_count t) (hr : r < length (cells_held t q)) where
    abbrev at : ℕ
    at = place (map length (held t.shape bs)) q r

    own : get_or (held t.shape bs) q [] ≡ cells_held t q
    own = mapped (cells_in t.shape) [] [] bs q hq

    some : q < length (held t.shape bs)
    some = omega (arith, length-map bs (cells_in t.shape))

    long : r < length (get_or (held t.shape bs) q [])
    long = omega (arith, ap length own)

    -- the cell stands there among all cells, and its value among all values
    cell_there : get_or all at 0 ≡ get_or (cells_held t q) r 0
    cell_there = ap (λ (l : List ℕ). get_or l at 0) (held_all t.shape bs) ∙ at_place 0 (held t.shape bs) q r some long ∙ ap (λ (l : List ℕ). get_or l r 0) own

    value_there : get_or (joined vss) at [] ≡ get_or (get_or vss q []) r []
    value_there =
        let many : q < length vss = omega (arith, chunks_counted s) in
        let same : length (get_or vss q []) ≡ length (get_or (held t.shape bs) q []) =
        sym (mapped length [] 0 vss q many) ∙ ap (λ (l : List ℕ). get_or l q 0) same_lengths ∙ mapped length [] 0 (held t.shape bs) q some in
        ap (λ (ls : List ℕ). get_or (joined vss) (place ls q r) []) (sym same_lengths) ∙ at_place [] vss q r many (omega (arith, long))

    taken_back : get_or (put_back [] n all (joined vss)) (get_or (cells_held t q) r 0) [] ≡ get_or (get_or vss q []) r []
    taken_back =
        ap (λ (i : ℕ). get_or (put_back [] n all (joined vss)) i []) (sym cell_there)
        ∙ put_back_at n all (all_below t.shape bs within) s.once [] (joined vss) at as_many
        (omega (arith, ap length (held_all t.shape bs), place_within (held t.shape bs) q r some long))
        ∙ value_there

pub cuts : Cuts
unfolding migrate_extract migrate_extract_answer
cuts t vss e ns p =
    let s : Sound t vss = sound t true e in
    let back : List Value = put_back [] (volume t.shape) (cells_of_all t.shape (chunk_subsets t)) (joined vss) in
    record {
      given = λ out. ap (λ (a : Answer (List (List Value))). ragged_outcome (and_then a (cut_or_refused t ns (ragged_lengths_of out))) out)
          (ap (λ (b : Bool). chunk_values b t) (numbers_test_lem t.shape ns p) ∙ e);
      counted = length-map (cells_asked t ns) (λ i. get_or back i []);
      cells = λ i q r hi hq hr same.
          mapped (λ j. get_or back j []) 0 [] (cells_asked t ns) i hi
          ∙ ap (λ (j : ℕ). get_or back j []) (sym same)
          ∙ taken_back s q r hq hr;
    }
