-- docs/SPEC.md, S3.9, S6.5 to S6.7, S7.2: extract, merge and partial_decode, their answers, refusals in order, and what is left in the outputs.
-- Assumes nothing.
use Rattle.std.specs.Prelude.{ℕ, List, length}
use Rattle.array.specs.Answer.{Answer, unless, and_then, Outcome}
use Rattle.array.specs.Lists.{joined}
use Rattle.array.specs.Kind.{Kind, Place, ragged, byte_kind}
use Rattle.array.specs.Shape.{volume, shape_test}
use Rattle.array.specs.Kind.{kind_test}
use Rattle.array.specs.Subset.{subset_of, subsets_of, numbers_test, many_test, cells_of_all}
use Rattle.array.specs.Content.{Content, RaggedContent, unmasked, leaves, size_test, unless_kept}
use Rattle.array.specs.declared.answer.Lengths.{Lengths}
use Rattle.array.specs.declared.answer.RaggedLengths.{RaggedLengths}
use Rattle.array.specs.Buffers.{lengths_of, ragged_lengths_of, enough_test, ragged_enough_test, ragged_outcome, content_outcome, if_room}
use Rattle.codec.specs.Ragged.{get_ragged}
use Rattle.chunks.specs.Gather.{once_test}
use Rattle.chunks.specs.Cut.{cut_of}
use Rattle.chunks.specs.Chunks.{chunk_cells, merge_of}

-- ---- extract: a subset, given by its numbers, cut from an array

unfoldable pub extract_answer : Kind → List ℕ → List ℕ → Content → Lengths → Answer Content
extract_answer k shape ns c room =
    let cut = cut_of k shape c (subset_of (length shape) ns) in
    unless (kind_test k) 1
    (unless (shape_test shape) 2
    (unless (numbers_test shape ns) 3
    (unless_kept k (volume shape) c
    (if_room (enough_test cut room) cut))))

unfoldable pub extracted : Kind → List ℕ → List ℕ → Content → Content → Outcome Lengths Content
unfolding extract_answer
extracted k shape ns c out = content_outcome (extract_answer k shape ns c (lengths_of out)) out

-- ---- merge: chunks, given by the numbers of their subsets and their content laid end to end. 5 goes by the cells of all chunks,
-- before it is known whether the subsets overlap

unfoldable pub merge_answer : Kind → List ℕ → List ℕ → Content → Lengths → Answer Content
unfolding chunk_cells
merge_answer k shape ns c room =
    let bs = subsets_of (length shape) ns in
    unless (kind_test k) 1
    (unless (shape_test shape) 2
    (unless (many_test shape ns) 3
    (and_then (chunk_cells k bs c) (λ cs.
    unless (size_test (length (joined (leaves k.depth cs)))) 5
    (unless (once_test (volume shape) (cells_of_all shape bs)) 12
    (if_room (enough_test (merge_of k shape bs cs) room) (merge_of k shape bs cs)))))))

unfoldable pub merged : Kind → List ℕ → List ℕ → Content → Content → Outcome Lengths Content
unfolding merge_answer
merged k shape ns c out = content_outcome (merge_answer k shape ns c (lengths_of out)) out

-- ---- partial_decode: stored ragged values of depth 0 read, then a subset cut. 5 goes by the stored last offset, not by what is cut

abbrev pub ragged_cut : ℕ → Place → List ℕ → List ℕ → RaggedContent → RaggedContent
ragged_cut w p shape ns x =
    let cut = cut_of (byte_kind 0 (ragged w p)) shape (unmasked x) (subset_of (length shape) ns) in
    record { values = cut.values; offsets = cut.offsets }

unfoldable pub partial_answer : ℕ → Place → List ℕ → List ℕ → List ℕ → RaggedLengths → Answer RaggedContent
partial_answer w p shape ns s room =
    unless (shape_test shape) 2 (unless (numbers_test shape ns) 3
    (and_then (get_ragged w p s (volume shape)) (λ x.
    if_room (ragged_enough_test (ragged_cut w p shape ns x) room) (ragged_cut w p shape ns x))))

unfoldable pub partially_decoded : ℕ → Place → List ℕ → List ℕ → List ℕ → RaggedContent → Outcome RaggedLengths RaggedContent
unfolding partial_answer
partially_decoded w p shape ns s out = ragged_outcome (partial_answer w p shape ns s (ragged_lengths_of out)) out
