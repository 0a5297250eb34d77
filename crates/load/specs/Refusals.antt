-- docs/SPEC.md, S7.1 to S7.3, S12.3: the rules of the call that makes a load, each with its refusal, in their order.
-- Assumes nothing.
use Rattle.std.specs.Prelude.{ℕ, List, [], ◌∷◌}
use Rattle.array.specs.Kind.{Kind, KindOk}
use Rattle.array.specs.Shape.{ShapeOk}
use Rattle.array.specs.Content.{Content}
use Rattle.array.specs.Buffers.{lengths_of, Enough}
use Rattle.array.specs.Refusals.{Rule, InOrder}
use Rattle.load.specs.Load.{load_of}
use Rattle.load.specs.Calls.{generated}

abbrev pub generate_rules : Kind → List ℕ → ℕ → Content → List Rule
generate_rules k shape s out = (1, KindOk k) ∷ (2, ShapeOk shape) ∷ (6, Enough (load_of k shape s) (lengths_of out)) ∷ []

pub record Refusals : Type 1 where
  pub generate : (k : Kind) (shape : List ℕ) (s : ℕ) (out : Content) → InOrder (generate_rules k shape s out) (generated k shape s out).answer
