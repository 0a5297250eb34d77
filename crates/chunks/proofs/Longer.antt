-- extract, merge and partial_decode answer as before, but where they refused with 5 (specs/Longer).
-- Assumes nothing.
use mathlib.Core.Path.{ap}
use Prim.Native.Nat.{ℕ}
use mathlib.Core.List.{List}
use lib.ListN.{length}
use Rattle.array.specs.Answer.{Answer, unless}
use Rattle.array.specs.Limits.{most_bytes}
use Rattle.array.specs.Lists.{joined}
use Rattle.array.specs.Bytes.{unle}
use Rattle.array.specs.Kind.{Kind, Place, kind_test}
use Rattle.array.specs.Shape.{volume, shape_test}
use Rattle.array.specs.Subset.{Subset, subset_of, subsets_of, numbers_test, many_test, cells_of_all}
use Rattle.array.specs.Cells.{Cell}
use Rattle.array.specs.Content.{Content, RaggedContent, leaves, array_test}
use Rattle.array.specs.declared.answer.Lengths.{Lengths}
use Rattle.array.specs.declared.answer.RaggedLengths.{RaggedLengths}
use Rattle.array.specs.Buffers.{lengths_of, ragged_lengths_of, enough_test, ragged_outcome, content_outcome, if_room}
use Rattle.codec.specs.Ragged.{get_ragged}
use Rattle.codec.specs.Longer.{most_before, get_ragged_at}
use Rattle.codec.proofs.Longer.{Same, same_self, same_unless, same_then, same_size, same_named, same_ragged, more}
use Rattle.chunks.specs.Gather.{once_test}
use Rattle.chunks.specs.Cut.{cut_of}
use Rattle.chunks.specs.Chunks.{chunk_cells, merge_of}
use Rattle.chunks.specs.Calls.{extract_answer, extracted, merge_answer, merged, partial_answer, partially_decoded}
use Rattle.chunks.specs.Longer.{extract_answer_at, merge_answer_at, partial_answer_at, Longer}

same_extract : (k : Kind) (shape ns : List ℕ) (c : Content) (room : Lengths) → Same (extract_answer_at most_before k shape ns c room) (extract_answer k shape ns c room)
unfolding extract_answer
same_extract k shape ns c room =
    let cut : Content = cut_of k shape c (subset_of (length shape) ns) in
    let given : Answer Content = if_room (enough_test cut room) cut in
    same_unless (kind_test k) 1 (same_unless (shape_test shape) 2 (same_unless (numbers_test shape ns) 3 (same_unless (array_test k (volume shape) c) 4
    (same_size most_before most_bytes (length c.values) {a = given} {b = given} more (λ h. same_self)))))

same_merge : (k : Kind) (shape ns : List ℕ) (c : Content) (room : Lengths) → Same (merge_answer_at most_before k shape ns c room) (merge_answer k shape ns c room)
unfolding merge_answer
same_merge k shape ns c room =
    let bs : List Subset = subsets_of (length shape) ns in
    let given : List (Cell k.depth) → Answer Content = λ cs. unless (once_test (volume shape) (cells_of_all shape bs)) 12
    (if_room (enough_test (merge_of k shape bs cs) room) (merge_of k shape bs cs)) in
    same_unless (kind_test k) 1 (same_unless (shape_test shape) 2 (same_unless (many_test shape ns) 3
    (same_then (chunk_cells k bs c) (chunk_cells k bs c) same_self (λ cs.
    same_size most_before most_bytes (length (joined (leaves k.depth cs))) {a = given cs} {b = given cs} more (λ h. same_self)))))

same_partial : (w : ℕ) (p : Place) (shape ns s : List ℕ) (room : RaggedLengths) → Same (partial_answer_at most_before w p shape ns s room) (partial_answer w p shape ns s room)
unfolding partial_answer get_ragged unle
same_partial w p shape ns s room =
    same_unless (shape_test shape) 2 (same_unless (numbers_test shape ns) 3
    (same_then (get_ragged_at most_before w p s (volume shape)) (get_ragged_at most_bytes w p s (volume shape)) (same_ragged most_before most_bytes more w p s (volume shape)) (λ x. same_self)))

pub longer : Longer
unfolding extracted merged partially_decoded
longer = record {
  extract = λ k shape ns c out n.
      ap (λ (a : Answer Content). content_outcome a out)
      (same_named lengths_of (extract_answer_at most_before k shape ns c (lengths_of out)) (extract_answer k shape ns c (lengths_of out)) (same_extract k shape ns c (lengths_of out)) n);
  merge = λ k shape ns c out n.
      ap (λ (a : Answer Content). content_outcome a out)
      (same_named lengths_of (merge_answer_at most_before k shape ns c (lengths_of out)) (merge_answer k shape ns c (lengths_of out)) (same_merge k shape ns c (lengths_of out)) n);
  partial_decode = λ w p shape ns s out n.
      ap (λ (a : Answer RaggedContent). ragged_outcome a out)
      (same_named ragged_lengths_of (partial_answer_at most_before w p shape ns s (ragged_lengths_of out)) (partial_answer w p shape ns s (ragged_lengths_of out)) (same_partial w p shape ns s (ragged_lengths_of out)) n);
}
