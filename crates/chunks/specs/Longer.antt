-- docs/SPEC.md, S8.11: longer traces, the same of extract, merge and partial_decode: each leaves the answer and the bytes that it left when
-- the limit was 16,777,216, but where it then refused with 5.
-- Assumes nothing.
use Rattle.std.specs.Prelude.{ℕ, List, length, leb}
use Rattle.array.specs.Answer.{Answer, unless, and_then, Outcome}
use Rattle.array.specs.Lists.{joined}
use Rattle.array.specs.Kind.{Kind, Place, kind_test}
use Rattle.array.specs.Shape.{volume, shape_test}
use Rattle.array.specs.Subset.{subset_of, subsets_of, numbers_test, many_test, cells_of_all}
use Rattle.array.specs.Content.{Content, RaggedContent, leaves, array_test}
use Rattle.array.specs.declared.answer.Lengths.{Lengths}
use Rattle.array.specs.declared.answer.RaggedLengths.{RaggedLengths}
use Rattle.array.specs.Buffers.{lengths_of, ragged_lengths_of, enough_test, ragged_enough_test, ragged_outcome, content_outcome, if_room}
use Rattle.codec.specs.Longer.{most_before, get_ragged_at, Alike}
use Rattle.chunks.specs.Gather.{once_test}
use Rattle.chunks.specs.Cut.{cut_of}
use Rattle.chunks.specs.Chunks.{chunk_cells, merge_of}
use Rattle.chunks.specs.Calls.{extracted, merged, ragged_cut, partially_decoded}

abbrev pub extract_answer_at : ℕ → Kind → List ℕ → List ℕ → Content → Lengths → Answer Content
extract_answer_at most k shape ns c room =
    let cut = cut_of k shape c (subset_of (length shape) ns) in
    unless (kind_test k) 1
    (unless (shape_test shape) 2
    (unless (numbers_test shape ns) 3
    (unless (array_test k (volume shape) c) 4
    (unless (leb (length c.values) most) 5
    (if_room (enough_test cut room) cut)))))

abbrev pub extracted_at : ℕ → Kind → List ℕ → List ℕ → Content → Content → Outcome Lengths Content
extracted_at most k shape ns c out = content_outcome (extract_answer_at most k shape ns c (lengths_of out)) out

abbrev pub merge_answer_at : ℕ → Kind → List ℕ → List ℕ → Content → Lengths → Answer Content
merge_answer_at most k shape ns c room =
    let bs = subsets_of (length shape) ns in
    unless (kind_test k) 1
    (unless (shape_test shape) 2
    (unless (many_test shape ns) 3
    (and_then (chunk_cells k bs c) (λ cs.
    unless (leb (length (joined (leaves k.depth cs))) most) 5
    (unless (once_test (volume shape) (cells_of_all shape bs)) 12
    (if_room (enough_test (merge_of k shape bs cs) room) (merge_of k shape bs cs)))))))

abbrev pub merged_at : ℕ → Kind → List ℕ → List ℕ → Content → Content → Outcome Lengths Content
merged_at most k shape ns c out = content_outcome (merge_answer_at most k shape ns c (lengths_of out)) out

abbrev pub partial_answer_at : ℕ → ℕ → Place → List ℕ → List ℕ → List ℕ → RaggedLengths → Answer RaggedContent
partial_answer_at most w p shape ns s room =
    unless (shape_test shape) 2 (unless (numbers_test shape ns) 3
    (and_then (get_ragged_at most w p s (volume shape)) (λ x.
    if_room (ragged_enough_test (ragged_cut w p shape ns x) room) (ragged_cut w p shape ns x))))

abbrev pub partially_decoded_at : ℕ → ℕ → Place → List ℕ → List ℕ → List ℕ → RaggedContent → Outcome RaggedLengths RaggedContent
partially_decoded_at most w p shape ns s out = ragged_outcome (partial_answer_at most w p shape ns s (ragged_lengths_of out)) out

pub record Longer : Type 0 where
  pub extract : (k : Kind) (shape ns : List ℕ) (c out : Content) → Alike (extracted_at most_before k shape ns c out) (extracted k shape ns c out)
  pub merge : (k : Kind) (shape ns : List ℕ) (c out : Content) → Alike (merged_at most_before k shape ns c out) (merged k shape ns c out)
  pub partial_decode : (w : ℕ) (p : Place) (shape ns s : List ℕ) (out : RaggedContent)
      → Alike (partially_decoded_at most_before w p shape ns s out) (partially_decoded w p shape ns s out)
