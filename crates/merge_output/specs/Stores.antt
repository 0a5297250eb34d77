-- Redundant by the law merge_steps in merge/proofs/Steps.antt: the last step of a merge (S6.6), 6 and the stores.
-- Assumes nothing.
use Rattle.std.specs.Prelude.{ℕ, List}
use Rattle.array.specs.Answer.{Answer, and_then}
use Rattle.array.specs.Kind.{Kind}
use Rattle.array.specs.Shape.{volume}
use Rattle.array.specs.Subset.{Subset, cells_of_all}
use Rattle.array.specs.Content.{Content}
use Rattle.array.specs.declared.answer.Lengths.{Lengths}
use Rattle.array.specs.Buffers.{enough_test, if_room}
use Rattle.chunks.specs.Gather.{Once}
use Rattle.chunks.specs.Chunks.{chunk_cells, merge_of}
use Rattle.merge_rules.specs.Checks.{MergeChecked}

-- 6, and the merged content
unfoldable pub store_answer : Kind → List ℕ → List Subset → Content → Lengths → Answer Content
unfolding chunk_cells
store_answer k shape bs c room = and_then (chunk_cells k bs c) (λ cs. if_room (enough_test (merge_of k shape bs cs) room) (merge_of k shape bs cs))

-- what the stores ask: that no chunk overlaps another or leaves a gap either
pub record MergeAsked (k : Kind) (shape : List ℕ) (bs : List Subset) (c : Content) (cells : ℕ) : Type 0 where
  pub checked : MergeChecked k shape bs c cells
  pub once : Once (volume shape) (cells_of_all shape bs)
