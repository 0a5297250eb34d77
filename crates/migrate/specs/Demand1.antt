-- docs/SPEC.md, S8.1, S16.5, S16.6: the first demand, for the calls on live tables.
-- An accepted result or one refusal number of the call's list; a refused call leaves every lent buffer as it was.
-- Assumes nothing.
use Rattle.std.specs.Prelude.{ℕ, List, [], ◌∷◌}
use Rattle.array.specs.Content.{RaggedContent}
use Rattle.chunks.specs.Demand1.{Answered}
use Rattle.migrate.specs.Live.{LiveTable}
use Rattle.migrate.specs.Calls.{migrate_extract, lent_of, migrate_step}

abbrev pub migrate_extract_numbers : List ℕ
migrate_extract_numbers = 2 ∷ 3 ∷ 4 ∷ 12 ∷ 7 ∷ 9 ∷ 11 ∷ 8 ∷ 10 ∷ 5 ∷ 6 ∷ []

abbrev pub migrate_step_numbers : List ℕ
migrate_step_numbers = 2 ∷ 3 ∷ 4 ∷ 12 ∷ 7 ∷ 9 ∷ 11 ∷ 8 ∷ 10 ∷ 5 ∷ 6 ∷ []

pub record Demand1 : Type 0 where
  pub extract_live : (t : LiveTable) (ns : List ℕ) (out : RaggedContent) → Answered migrate_extract_numbers out (migrate_extract t ns out)
  pub step_live : (t : LiveTable) → Answered migrate_step_numbers (lent_of t) (migrate_step t)
