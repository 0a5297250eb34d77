-- The older form is read as it was written (specs/Older).
-- Assumes nothing.
use mathlib.Core.Path.{◌≡◌, refl, sym, ap, ◌∙◌, subst}
use Prim.Native.Nat.{ℕ, zero, suc, ◌+◌, ◌*◌, ◌≤◌}
use native.Mathlib.Nat.{le_trans}
use native.Mathlib.Omega.{arith}
use mathlib.Core.List.{List, [], ◌∷◌, ◌++◌, map}
use lib.ListN.{length, take, drop, length-append}
use lib.Dec.{leb, eqb}
use lib.Seq.{take_at, drop_at}
use borrow.Author.Tests.{le-leb, eq-eqb}
use Rattle.array.specs.Answer.{Answer, gives, and_then, unless}
use Rattle.array.specs.Limits.{most_bytes, most_cells}
use Rattle.array.specs.Lists.{joined}
use Rattle.array.specs.Bytes.{le, unle}
use Rattle.array.specs.Kind.{Kind}
use Rattle.array.specs.Shape.{volume}
use Rattle.array.specs.Cells.{Value}
use Rattle.array.specs.Content.{RaggedContent, end_to_end, values_in, size_test}
use Rattle.array.specs.declared.answer.RaggedLengths.{RaggedLengths}
use Rattle.array.specs.Buffers.{ragged_lengths_of, RaggedEnough, ragged_enough_test, list_outcome, ragged_outcome}
use Rattle.array.proofs.Answers.{pass, passed, went_on, same_given}
use Rattle.array.proofs.Bytes.{length-le, unle-le}
use Rattle.array.proofs.Lists.{map_id}
use Rattle.array.proofs.Rules.{both, kind_test_lem, shape_test_lem, rest_passes, size_test_lem, size_ok, ragged_enough_test_lem}
use Rattle.array.proofs.LayoutLaws.{values_length_lem, values_total}
use Rattle.codec.specs.Carried.{FieldsFit}
use Rattle.codec.specs.Interleaved.{interleaved_cells, interleaved_values, put_cells, put_interleaved, interleaved_length}
use Rattle.codec.specs.Calls.{interleaved_answer, interleaved_decoded, encode_interleaved_answer, interleaved_encoded}
use Rattle.codec.specs.Older.{flat_kind, rest_ragged, OlderReturns}
use Rattle.codec.proofs.Carried.{fields_test_lem}

pub length_cells : (vs : List Value) → length (put_cells vs) ≡ 4 * length vs + length (joined vs)
unfolding put_cells
length_cells [] = refl
length_cells (v ∷ vs) =
    omega (
      arith,
      length-append (le 4 (length v)) (v ++ put_cells vs),
      length-le 4 (length v),
      length-append v (put_cells vs),
      length-append v (joined vs),
      length_cells vs,
    )

pub length_interleaved : (vs : List Value) → length (put_interleaved vs) ≡ interleaved_length vs
unfolding put_interleaved
length_interleaved vs = omega (arith, length-append (le 4 (length vs)) (put_cells vs), length-le 4 (length vs), length_cells vs)

pub cells_back : (vs : List Value) → FieldsFit vs → interleaved_cells (length vs) (put_cells vs) ≡ gives vs
unfolding interleaved_cells put_cells
cells_back [] p = refl
cells_back (v ∷ vs) p =
    let field : List ℕ = le 4 (length v) in
    let body : List ℕ = v ++ put_cells vs in
    let lf : length field ≡ 4 = length-le 4 (length v) in
    let el : unle (take 4 (field ++ body)) ≡ length v = ap unle (take_at field body 4 lf) ∙ unle-le 4 (length v) p.0 in
    rw (
      el,
      drop_at field body 4 lf,
      le-leb 4 (length (field ++ body)) (omega (arith, length-append field body)),
      le-leb (length v) (length body) (omega (arith, length-append v (put_cells vs))),
      take_at v (put_cells vs) (length v) refl,
      drop_at v (put_cells vs) (length v) refl,
      cells_back vs p.1,
    )

-- the reader, and over the reading call
pub older_values : (vs : List Value) → length vs ≤ most_cells → FieldsFit vs → length (joined vs) ≤ most_bytes → interleaved_values (length vs) (put_interleaved vs) ≡ gives vs
unfolding interleaved_values put_interleaved most_cells
older_values vs few fit small =
    let field : List ℕ = le 4 (length vs) in
    let lf : length field ≡ 4 = length-le 4 (length vs) in
    pass 7 (le-leb (4 * suc (length vs)) (length (field ++ put_cells vs)) (omega (arith, length-append field (put_cells vs), length_cells vs)))
    (pass 9 (eq-eqb (unle (take 4 (field ++ put_cells vs))) (length vs) (ap unle (take_at field (put_cells vs) 4 lf) ∙ unle-le 4 (length vs) (omega arith)))
    (ap (λ (a : Answer (List Value)). and_then a (λ us. unless (size_test (length (joined us))) 5 (gives us)))
    (ap (interleaved_cells (length vs)) (drop_at field (put_cells vs) 4 lf) ∙ cells_back vs fit)
    ∙ pass 5 (size_test_lem (length (joined vs)) small) refl))

pub older_reads : (vs : List Value) → length vs ≤ most_cells → FieldsFit vs → length (joined vs) ≤ most_bytes → (r : RaggedLengths) → RaggedEnough (end_to_end vs) r
    → interleaved_answer (length vs) (put_interleaved vs) r ≡ gives (end_to_end vs)
unfolding interleaved_answer
older_reads vs few fit small r e =
    pass 2 (le-leb (length vs) most_cells few)
    (ap (λ (a : Answer (List Value)). and_then a (λ us. unless (ragged_enough_test (end_to_end us) r) 6 (gives (end_to_end us)))) (older_values vs few fit small)
    ∙ pass 6 (ragged_enough_test_lem (end_to_end vs) r e) refl)

-- ---- what is read: as many cells as were asked for, with few bytes

pub length_read : (n : ℕ) (s : List ℕ) (vs : List Value) → interleaved_cells n s ≡ gives vs → length vs ≡ n
unfolding interleaved_cells
length_read zero s vs e = ap length (sym (same_given e))
length_read (suc n) s vs e =
    let l : ℕ = unle (take 4 s) in
    let others : Answer (List Value) = interleaved_cells n (drop l (drop 4 s)) in
    let f : List Value → Answer (List Value) = λ us. gives (take l (drop 4 s) ∷ us) in
    let field = passed (leb 4 (length s)) 11 (unless (leb l (length (drop 4 s))) 11 (and_then others f)) e in
    let cell = passed (leb l (length (drop 4 s))) 11 (and_then others f) field.1 in
    let g = went_on others f cell.1 in
    ap length (sym (same_given g.1.1)) ∙ ap suc (length_read n (drop l (drop 4 s)) g.0 g.1.0)

pub record OlderRead (n : ℕ) (vs : List Value) : Type 0 where
  pub counted : length vs ≡ n
  pub small : length (joined vs) ≤ most_bytes

pub older_read : (n : ℕ) (s : List ℕ) {vs : List Value} → interleaved_values n s ≡ gives vs → OlderRead n vs
unfolding interleaved_values
older_read n s e =
    let cells : Answer (List Value) = interleaved_cells n (drop 4 s) in
    let f : List Value → Answer (List Value) = λ us. unless (size_test (length (joined us))) 5 (gives us) in
    let long = passed (leb (4 * suc n) (length s)) 7 (unless (eqb (unle (take 4 s)) n) 9 (and_then cells f)) e in
    let count = passed (eqb (unle (take 4 s)) n) 9 (and_then cells f) long.1 in
    let g = went_on cells f count.1 in
    let size = passed (size_test (length (joined g.0))) 5 (gives g.0) g.1.1 in
    subst (OlderRead n) (same_given size.1) (record { counted = length_read n (drop 4 s) g.0 g.1.0; small = size_ok (length (joined g.0)) size.0 })

-- ---- and as it was written

pub older_returns : OlderReturns
unfolding interleaved_encoded encode_interleaved_answer interleaved_decoded
older_returns x w p shape A v fit out ho back hb =
    let k : Kind = flat_kind x w p in
    let n : ℕ = volume shape in
    let vs : List Value = values_in k.form n A in
    let lv : length vs ≡ n = values_length_lem k.form n A v.content.fits.values_fit in
    let total : length (joined vs) ≤ most_bytes = le_trans (values_total k.form n A v.content.fits.values_fit) v.small in
    let same : end_to_end vs ≡ rest_ragged k shape A = ap end_to_end (sym (map_id vs) ∙ ap (map (λ (u : Value). u)) (sym (map_id vs))) in
    record {
      writes = ap (λ (a : Answer (List ℕ)). list_outcome a out)
          (pass 1 (both (both (kind_test_lem k v.kind) refl) refl) (pass 2 (shape_test_lem shape v.shaped) (rest_passes k n A v.content v.small
          (pass 20 (fields_test_lem vs fit) (pass 6 (le-leb (length (put_interleaved vs)) (length out) (omega (arith, length_interleaved vs))) refl)))));
      long = length_interleaved vs;
      reads = ap (λ (a : Answer RaggedContent). ragged_outcome a back)
          (ap (λ (m : ℕ). interleaved_answer m (put_interleaved vs) (ragged_lengths_of back)) (sym lv)
          ∙ older_reads vs (omega (arith, v.shaped.few_cells)) fit total (ragged_lengths_of back)
          (subst (λ (c : RaggedContent). RaggedEnough c (ragged_lengths_of back)) (sym same) hb)
          ∙ ap gives same);
    }
