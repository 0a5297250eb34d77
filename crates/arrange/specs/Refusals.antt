-- docs/SPEC.md, S7.1 to S7.3, S15.3: the rules of the call that gives an arrangement, each with its refusal, in their order.
-- Assumes nothing.
use Rattle.std.specs.Prelude.{ℕ, ◌<◌, List, [], ◌∷◌}
use Rattle.array.specs.Content.{Content}
use Rattle.array.specs.Buffers.{lengths_of, Enough}
use Rattle.array.specs.Refusals.{Rule, InOrder}
use Rattle.arrange.specs.Arrangement.{arrangement_count, arrangement}
use Rattle.arrange.specs.Calls.{SmallOk, arranged}

abbrev pub arrangement_rules : ℕ → ℕ → ℕ → Content → List Rule
arrangement_rules d n k out = (1, SmallOk d n) ∷ (19, k < arrangement_count d n) ∷ (6, Enough (arrangement d n k) (lengths_of out)) ∷ []

pub record Refusals : Type 1 where
  pub arrange : (d n k : ℕ) (out : Content) → InOrder (arrangement_rules d n k out) (arranged d n k out).answer
