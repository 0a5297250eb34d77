-- docs/SPEC.md, S6.13: what the declared type of a step means, and what a step leaves behind. The left side of its contract.
-- Assumes nothing.
use Rattle.std.specs.Prelude.{ℕ, List, Result}
use Rattle.array.specs.declared.refusal.Refusal.{Refusal}
use Rattle.array.specs.Answer.{Answer, map_answer, Outcome}
use Rattle.array.specs.Meaning.{told}
use Rattle.migrate.specs.Calls.{Progress, nothing, entered, Lent}
use Rattle.migrate_step.specs.declared.Step.{Step}
use Rattle.migrate_step.specs.declared.Step.TheVariants.{NoneLeft, Moved}

abbrev pub progress_of : Step → Progress
progress_of NoneLeft = nothing
progress_of (Moved b m) = entered b m

abbrev pub told_step : Result Step Refusal → Answer Progress
told_step r = map_answer progress_of (told r)

-- what is lent in place
abbrev pub lent_by : List ℕ → List ℕ → Lent
lent_by ls area = record { moved_lengths = ls; area = area }

abbrev pub outcome_step : Result Step Refusal → List ℕ → List ℕ → Outcome Progress Lent
outcome_step r ls area = record { answer = told_step r; buffers = lent_by ls area }
