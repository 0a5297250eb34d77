-- Redundant by the law merge_steps in merge/proofs/Steps.antt: a merge (S6.6) in steps, the checks of the chunks, then 12, then 6 and the stores.
-- Assumes nothing.
use Rattle.std.specs.Prelude.{ℕ, List}
use Rattle.array.specs.Answer.{Answer, unless}
use Rattle.array.specs.Kind.{Kind}
use Rattle.array.specs.Shape.{volume}
use Rattle.array.specs.Subset.{Subset, cells_of_all}
use Rattle.array.specs.Content.{Content}
use Rattle.array.specs.declared.answer.Lengths.{Lengths}
use Rattle.chunks.specs.Gather.{once_test}
use Rattle.merge_output.specs.Stores.{store_answer}

-- 12, and then the same
abbrev pub cover_answer : Kind → List ℕ → List Subset → Content → Lengths → Answer Content
cover_answer k shape bs c room = unless (once_test (volume shape) (cells_of_all shape bs)) 12 (store_answer k shape bs c room)
