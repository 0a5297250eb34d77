-- docs/SPEC.md, S6.17, S12.3: the call that makes a load: its answer, with the refusals in order, and what it leaves in the outputs.
-- Assumes nothing.
use Rattle.std.specs.Prelude.{ℕ, List}
use Rattle.array.specs.Answer.{Answer, unless, Outcome}
use Rattle.array.specs.Kind.{Kind, kind_test}
use Rattle.array.specs.Shape.{shape_test}
use Rattle.array.specs.Content.{Content}
use Rattle.array.specs.declared.answer.Lengths.{Lengths}
use Rattle.array.specs.Buffers.{lengths_of, enough_test, content_outcome, if_room}
use Rattle.load.specs.Load.{load_of}

-- ---- generate: the load of a start number

unfoldable pub generate_answer : Kind → List ℕ → ℕ → Lengths → Answer Content
generate_answer k shape s room =
    unless (kind_test k) 1
    (unless (shape_test shape) 2
    (if_room (enough_test (load_of k shape s) room) (load_of k shape s)))

unfoldable pub generated : Kind → List ℕ → ℕ → Content → Outcome Lengths Content
unfolding generate_answer
generated k shape s out = content_outcome (generate_answer k shape s (lengths_of out)) out
