-- What the call answers: each refusal in its order, and success.
-- Assumes nothing.
use mathlib.Core.Path.{◌≡◌, refl, sym, ap, ◌∙◌}
use mathlib.Core.Bool.{Bool, true, false}
use Prim.Native.Nat.{ℕ}
use mathlib.Core.List.{List}
use lib.ListN.{length}
use Rattle.array.specs.Answer.{Answer, gives, refuses, unless, and_then, Outcome}
use Rattle.array.specs.declared.kind.IndexWidth.{IndexWidth}
use Rattle.array.specs.Meaning.{width_of}
use Rattle.array.specs.Kind.{Place}
use Rattle.array.specs.Shape.{volume, shape_test}
use Rattle.array.specs.Subset.{subset_of, numbers_test, cells_in}
use Rattle.array.specs.Cells.{Value}
use Rattle.array.specs.Content.{RaggedContent, size_test, end_to_end}
use Rattle.array.specs.declared.answer.RaggedLengths.{RaggedLengths}
use Rattle.array.specs.Buffers.{ragged_lengths_of, ragged_enough_test, if_room, ragged_outcome}
use Rattle.array.proofs.Rules.{numbers_ok}
use Rattle.valid.specs.ShapeCells.{shape_answer}
use Rattle.valid.proofs.ShapeLaws.{counted, not_counted}
use Rattle.codec.specs.Ragged.{get_ragged}
use Rattle.stored_index.specs.declared.Index.{Index}
use Rattle.stored_index.specs.Index.{found_in}
use Rattle.stored_index.proofs.CheckedIndex.{found_refused}
use Rattle.chunks.specs.Calls.{ragged_cut, partial_answer, partially_decoded}
use Rattle.cut_ragged.specs.Source.{put_ragged}
use Rattle.cut_ragged.proofs.Outcomes.{refused}
use Rattle.partial.specs.Stored.{stored_values, cut_answer}
use Rattle.partial.proofs.Stored.{read_at, Read, read_cut}

-- ---- few enough bytes, or 5

module _ (l : ℕ) (vs : List Value) (old : RaggedContent) where
  abbrev answer : Outcome RaggedLengths RaggedContent
  answer = ragged_outcome (cut_answer l vs (ragged_lengths_of old)) old

  by_test : {b : Bool} → size_test l ≡ b → ragged_outcome (unless b 5 (if_room (ragged_enough_test (end_to_end vs) (ragged_lengths_of old)) (end_to_end vs))) old ≡ answer
  by_test e = ap (λ (x : Bool). ragged_outcome (unless x 5 (if_room (ragged_enough_test (end_to_end vs) (ragged_lengths_of old)) (end_to_end vs))) old) (sym e)

  pub too_many : size_test l ≡ false → refused 5 old ≡ answer
  too_many e = by_test e

  pub few_enough : size_test l ≡ true → put_ragged (end_to_end vs) old ≡ answer
  few_enough e = by_test e

-- ---- the call

module _ (width : IndexWidth) (p : Place) (shape ns s : List ℕ) (old : RaggedContent) where
  abbrev w : ℕ
  w = width_of width

  -- what is made of what was read
  abbrev cut_or : RaggedContent → Answer RaggedContent
  cut_or x = unless (ragged_enough_test (ragged_cut w p shape ns x) (ragged_lengths_of old)) 6 (gives (ragged_cut w p shape ns x))

  answered : {a b : Bool} {r : Answer RaggedContent} → shape_test shape ≡ a → numbers_test shape ns ≡ b → get_ragged w p s (volume shape) ≡ r
      → partially_decoded w p shape ns s old ≡ ragged_outcome (unless a 2 (unless b 3 (and_then r cut_or))) old
  unfolding partially_decoded partial_answer
  answered ea eb er = rw (ea, eb, er)

  pub no_shape : {number : ℕ} → refuses number ≡ shape_answer shape → refused number old ≡ partially_decoded (width_of width) p shape ns s old
  no_shape {number} e =
      let n = not_counted shape number e in
      rw n.1 (sym (answered {b = numbers_test shape ns} {r = get_ragged w p s (volume shape)} n.0 refl refl))

  module _ (ea : shape_test shape ≡ true) where
    pub no_subset : numbers_test shape ns ≡ false → refused 3 old ≡ partially_decoded (width_of width) p shape ns s old
    no_subset eb = sym (answered {r = get_ragged w p s (volume shape)} ea eb refl)

    module _ (eb : numbers_test shape ns ≡ true) where
      pub not_read : (e : ℕ) → found_in (width_of width) p s 0 (volume shape) ≡ refuses e → refused e old ≡ partially_decoded (width_of width) p shape ns s old
      not_read e h = sym (answered ea eb (found_refused w p s 0 (volume shape) e h))

      pub cut_read : (i : Index) → Read width p s (volume shape) i
          → ragged_outcome (cut_answer i.last (stored_values width s i (cells_in shape (subset_of (length shape) ns))) (ragged_lengths_of old)) old
          ≡ partially_decoded (width_of width) p shape ns s old
      cut_read i r =
          let x : RaggedContent = read_at w s (volume shape) i.index i.from in
          sym (answered ea eb r.gave
          ∙ ap (λ (a : Answer RaggedContent). ragged_outcome a old) (go (size_test i.last) x)
          ∙ ap (λ (c : RaggedContent). ragged_outcome (unless (size_test i.last) 5 (unless (ragged_enough_test c (ragged_lengths_of old)) 6 (gives c))) old)
          (read_cut shape ns r (numbers_ok shape ns eb).fits))
        where
          go : (b : Bool) (x : RaggedContent) → and_then (unless b 5 (gives x)) cut_or ≡ unless b 5 (cut_or x)
          go true x = refl
          go false x = refl

pub ruleset partial_laws = (counted, no_shape, no_subset, not_read, cut_read)
