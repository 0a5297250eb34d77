-- The cells of a stored chunk: all of them where it is read, and the next of those that are left.
-- Assumes nothing.
use mathlib.Core.Path.{◌≡◌, refl, sym, ap, ◌∙◌}
use Prim.Native.Nat.{ℕ, suc, ◌+◌, ◌-◌, ◌*◌, ◌<◌, ◌≤◌}
use native.Mathlib.Numerals.{add-one}
use native.Mathlib.Nat.{sub-zero}
use native.Mathlib.Omega.{arith}
use mathlib.Core.Bool.{Bool, true, false}
use mathlib.Core.List.{List, ◌∷◌}
use lib.ListN.{take, drop}
use lib.Seq.{drop-drop}
use Rattle.array.specs.Answer.{Answer, gives, refuses, unless, map_answer}
use Rattle.array.specs.Limits.{most_cells}
use Rattle.array.specs.Lists.{from}
use Rattle.array.specs.Kind.{at_start, ragged}
use Rattle.array.specs.Cells.{Value}
use Rattle.array.specs.Content.{RaggedContent, unmasked, size_test}
use Rattle.array.specs.Offsets.{last, slices}
use Rattle.array.specs.Places.{offset_at, values_at}
use Rattle.array.specs.declared.kind.IndexWidth.TheVariants.{Eight}
use Rattle.array.proofs.Answers.{passed, went_on, same_given}
use Rattle.array.proofs.Numbered.{values_are}
use Rattle.array.proofs.Places.{below}
use Rattle.array.proofs.Geometry.{All-from}
use Rattle.codec.specs.Ragged.{get_ragged}
use Rattle.codec.specs.Values.{get_values}
use Rattle.codec.specs.Interleaved.{interleaved_cells}
use Rattle.decode_interleaved.specs.Walk.{total_of}
use Rattle.decode_interleaved.proofs.Steps.{never, length_at, Cell}
use Rattle.decode_interleaved.proofs.Loops.{next_cell}
use Rattle.decode_interleaved.proofs.Outcomes.{cells_read}
use Rattle.stored_index.specs.declared.Index.{Index}
use Rattle.stored_index.specs.Index.{located, found_in, checked_in}
use Rattle.stored_index.proofs.IndexLaws.{limited_index, found-limited}
use Rattle.partial.proofs.Stored.{read_at, stored_is, Read, read_found, values_same}
use Rattle.migrate.specs.Live.{Stored, older, newer, read_stored}
use Rattle.migrate_cells.specs.Reading.{begins_at, offset_in, NewerLeft, CellsLeft, NextCell}

-- ---- the next cell

module _ (s : List ℕ) (n i at : ℕ) (vs : List Value) (h : i < n) where
  pub older_next : interleaved_cells (n - i) (drop at s) ≡ gives vs → NextCell (older s) n i (at + 4) (length_at s at) vs
  older_next e =
      let c : Cell s at (n - i - 1) vs = next_cell s (n - i) at vs e (omega arith) in
      let one : n - (i + 1) ≡ n - i - 1 = omega arith in
      record { others = c.others; fits = c.fits; is = c.whole; left = ap (λ (k : ℕ). interleaved_cells k (drop (at + 4 + length_at s at) s)) one ∙ c.after }

  pub newer_next : (l : NewerLeft n s i at vs) → NextCell (newer s) n i at (offset_in s (suc i) - offset_in s i) vs
  newer_next l =
      let up : offset_in s i ≤ offset_in s (suc i) = l.rises i h in
      let one : n - i ≡ suc (n - (i + 1)) = omega arith in
      let base : ℕ = 16 + n * 8 in
      record {
        others = values_at (offset_in s) (drop base s) (from (suc i) (n - (i + 1)));
        fits = omega (arith, l.here, l.data_room, top);
        is = l.are ∙ ap (λ (k : ℕ). values_at (offset_in s) (drop base s) (from i k)) one
            ∙ ap (λ (t : List ℕ). take (offset_in s (suc i) - offset_in s i) t ∷ values_at (offset_in s) (drop base s) (from (suc i) (n - (i + 1))))
            (drop-drop (offset_in s i) base s ∙ ap (λ (k : ℕ). drop k s) (sym l.here));
        left = record {
          room = l.room;
          rises = l.rises;
          data_room = l.data_room;
          here = omega (arith, l.here, ap (offset_in s) (add-one i));
          are = ap (λ (k : ℕ). values_at (offset_in s) (drop base s) (from k (n - (i + 1)))) (sym (add-one i));
        };
      }
    where
      top : offset_in s (suc i) ≤ offset_in s n
      top = below l.rises (suc i) (omega arith)

-- ---- all cells

-- a check within the limit has found the index
within_limit : (a : Answer Index) (i : Index) → limited_index a ≡ gives i → a ≡ gives i
within_limit (refuses k) i e = absurd (never {k = k} refl e)
within_limit (gives x) i e = go (size_test x.last) e
  where
    go : (b : Bool) → unless b 5 (gives x) ≡ gives i → gives x ≡ gives i
    go true q = q
    go false q = absurd (never {k = 5} refl q)

module _ (s : List ℕ) (n : ℕ) (c : RaggedContent) (e : get_ragged 8 at_start s n ≡ gives c) where
  abbrev i : Index
  i = located 8 at_start s 0 n (last c.offsets)

  found_index : found_in 8 at_start s 0 n ≡ gives i
  unfolding checked_in
  found_index =
      within_limit (found_in 8 at_start s 0 n) i
      (found-limited 8 at_start s 0 n ∙ ap (λ (a : Answer RaggedContent). map_answer (located 8 at_start s 0 n) (map_answer (λ (x : RaggedContent). last x.offsets) a)) e)

  read : Read Eight at_start s n i
  read = read_found Eight at_start s n i found_index

  abbrev there : RaggedContent
  there = read_at 8 s n i.index i.from

  content : c ≡ there
  content = same_given (sym e ∙ read.gave ∙ ap (λ (b : Bool). unless b 5 (gives there)) (passed (size_test i.last) 5 (gives there) (sym read.gave ∙ e)).0)

  from_is : i.from ≡ 16 + n * 8
  from_is = omega arith

  newer_begin : (vs : List Value) → vs ≡ slices c.offsets c.values → NewerLeft n s 0 (16 + n * 8) vs
  newer_begin vs q =
      let zero-th : offset_at there.offsets 0 ≡ 0 = read.keeps.1.0 in
      record {
        room = read.stored.there;
        rises = read.stored.rises;
        data_room = omega (arith, read.stored.data_room, from_is);
        here = omega (arith, zero-th, stored_is 8 n s 8 0 (omega arith));
        are = q ∙ ap (λ (x : RaggedContent). slices x.offsets x.values) content
            ∙ values_are (ragged 8 at_start) n (unmasked there) read.keeps
            ∙ values_same (offset_at there.offsets) (drop i.from s) read.stored.rises (stored_is 8 n s 8) (from 0 n) (All-from (λ j. j < n) 0 n (λ j l k. omega arith))
            ∙ ap (λ (k : ℕ). values_at (offset_in s) (drop k s) (from 0 n)) from_is
            ∙ ap (λ (k : ℕ). values_at (offset_in s) (drop (16 + n * 8) s) (from 0 k)) (sym (sub-zero n));
      }

pub cells_begin : (c : Stored) (n : ℕ) (vs : List Value) → n ≤ most_cells → read_stored c n ≡ gives vs → CellsLeft c n 0 (begins_at c n) vs
unfolding read_stored get_values
cells_begin (older s) n vs h e =
    let q = cells_read n s (total_of vs) h (sym (ap (map_answer total_of) e)) in
    ap (λ (k : ℕ). interleaved_cells k (drop 4 s)) (sub-zero n) ∙ q.0.all ∙ sym q.1 ∙ e
cells_begin (newer s) n vs h e =
    let g = went_on (get_ragged 8 at_start s n) (λ x. gives (slices x.offsets x.values)) e in
    newer_begin s n g.0 g.1.0 vs (sym (same_given g.1.1))
