-- Each refusal of cutting and merging exactly when it is due.
-- Assumes nothing.
use mathlib.Core.Path.{◌≡◌, refl, sym, subst}
use mathlib.Core.Bool.{Bool, true, false, ◌&&◌}
use mathlib.Core.List.{List, [], ◌∷◌, ◌++◌}
use Prim.Native.Nat.{ℕ}
use lib.ListN.{length}
use lib.Dec.{eqb}
use borrow.Author.Tests.{eq-eqb, eqb-true}
use Rattle.array.specs.Lists.{joined}
use Rattle.array.specs.Answer.{Answer, gives, unless, and_then}
use Rattle.array.specs.Kind.{Kind, Place}
use Rattle.array.specs.Shape.{volume, shape_test}
use Rattle.array.specs.Subset.{Subset, lengths, subsets_of, numbers_test, cells_of_all}
use Rattle.array.specs.Content.{Content, RaggedContent, cells_of, leaves}
use Rattle.array.specs.declared.answer.RaggedLengths.{RaggedLengths}
use Rattle.array.specs.Buffers.{lengths_of, ragged_lengths_of, ragged_enough_test}
use Rattle.array.specs.Refusals.{InOrder, success}
use Rattle.array.proofs.Refusals.{stage, stage_given, stage_array, and_then_lem, named}
use Rattle.array.proofs.Rules.{both, left_of_lem, right_of}
use Rattle.array.proofs.Rules.{kind_test_lem, kind_ok, shape_test_lem, shape_ok, numbers_test_lem, numbers_ok, many_test_lem, many_ok, array_test_lem, array_ok}
use Rattle.array.proofs.Rules.{size_test_lem, size_ok, enough_test_lem, enough_ok, ragged_enough_test_lem, ragged_enough_ok}
use Rattle.codec.specs.Ragged.{get_ragged}
use Rattle.codec.proofs.Refusals.{ragged_order}
use Rattle.chunks.specs.Chunks.{first_chunk, later_chunks, Nothing, nothing_test, chunk_cells, merge_of}
use Rattle.chunks.specs.Calls.{extract_answer, extracted, merge_answer, merged, ragged_cut, partial_answer, partially_decoded}
use Rattle.chunks.specs.Refusals.{chunk_rules, partial_rules, Refusals}
use Rattle.chunks.proofs.Gather.{once_test_lem, once_ok}

-- ---- the chunk list

nothing_test_lem : (c : Content) → Nothing c → nothing_test c ≡ true
nothing_test_lem c p = both (both (eq-eqb (length c.masks) 0 p.without_masks_lem) (eq-eqb (length c.values) 0 p.no_values)) (eq-eqb (length c.offsets) 0 p.no_offsets)

pub nothing_ok : (c : Content) → nothing_test c ≡ true → Nothing c
nothing_ok c e =
    let a : Bool = eqb (length c.masks) 0 in
    let b : Bool = eqb (length c.values) 0 in
    let d : Bool = eqb (length c.offsets) 0 in
    let e2 : a && b ≡ true = left_of_lem (a && b) d e in
    record {
      without_masks_lem = eqb-true (length c.masks) 0 (left_of_lem a b e2);
      no_values = eqb-true (length c.values) 0 (right_of a b e2);
      no_offsets = eqb-true (length c.offsets) 0 (right_of (a && b) d e);
    }

chunk_order : (k : Kind) (bs : List Subset) (c : Content) → InOrder (chunk_rules k bs c) (chunk_cells k bs c)
unfolding chunk_cells
chunk_order k [] c = stage 4 (nothing_test_lem c) (nothing_ok c) success
chunk_order k (b ∷ bs) c =
    let m : ℕ = volume (lengths b) in
    stage 4 (array_test_lem k m (first_chunk k m c)) (array_ok k m (first_chunk k m c))
    (named (λ cs. cells_of k m (first_chunk k m c) ++ cs) (chunk_order k bs (later_chunks k m c)))

-- ---- partial_decode: 3 before what is read, and 6 behind it

module _ (w : ℕ) (p : Place) (shape ns s : List ℕ) (out : RaggedContent) where
  abbrev room : RaggedLengths
  room = ragged_lengths_of out

  abbrev pub cut_or_six : RaggedContent → Answer RaggedContent
  cut_or_six x = unless (ragged_enough_test (ragged_cut w p shape ns x) room) 6 (gives (ragged_cut w p shape ns x))

  pub subset_first : (b : Bool) → numbers_test shape ns ≡ b
      → partial_answer w p shape ns s room ≡ unless (shape_test shape) 2 (unless b 3 (and_then (get_ragged w p s (volume shape)) cut_or_six))
  unfolding partial_answer
  subset_first true e = rw e
  subset_first false e = rw e

  partial_order : InOrder (partial_rules w p shape ns s out) (partial_answer w p shape ns s room)
  partial_order =
      subst (InOrder (partial_rules w p shape ns s out)) (sym (subset_first (numbers_test shape ns) refl))
      (stage 2 (shape_test_lem shape) (shape_ok shape)
      (stage 3 (numbers_test_lem shape ns) (numbers_ok shape ns)
      (and_then_lem (ragged_order w p s (volume shape)) (λ x e.
      stage_given 6 e (ragged_enough_test_lem (ragged_cut w p shape ns x) room) (ragged_enough_ok (ragged_cut w p shape ns x) room) success))))

-- ---- the calls

pub refusals : Refusals
unfolding extracted extract_answer merged merge_answer partially_decoded
refusals = record {
  extract = λ k shape ns c out. named lengths_of
      (stage 1 (kind_test_lem k) (kind_ok k)
      (stage 2 (shape_test_lem shape) (shape_ok shape)
      (stage 3 (numbers_test_lem shape ns) (numbers_ok shape ns)
      (stage_array k (volume shape) c
      (stage 6 (enough_test_lem _ (lengths_of out)) (enough_ok _ (lengths_of out)) success)))));
  merge = λ k shape ns c out.
      let bs : List Subset = subsets_of (length shape) ns in
      let all : List ℕ = cells_of_all shape bs in
      named lengths_of
      (stage 1 (kind_test_lem k) (kind_ok k)
      (stage 2 (shape_test_lem shape) (shape_ok shape)
      (stage 3 (many_test_lem shape ns) (many_ok shape ns)
      (and_then_lem (chunk_order k bs c) (λ cs e.
      stage_given 5 e (size_test_lem (length (joined (leaves k.depth cs)))) (size_ok (length (joined (leaves k.depth cs))))
      (stage 12 (once_test_lem (volume shape) all) (once_ok (volume shape) all)
      (stage_given 6 e (enough_test_lem (merge_of k shape bs cs) (lengths_of out)) (enough_ok (merge_of k shape bs cs) (lengths_of out)) success)))))));
  partial_decode = λ w p shape ns s out. named ragged_lengths_of (partial_order w p shape ns s out);
}
