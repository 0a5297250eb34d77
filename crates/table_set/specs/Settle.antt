-- Redundant by the law set_is in table_set/proofs/Outcomes.antt: what a setting leaves of a table that keeps its rules (S6.20).
-- Assumes nothing.
use Rattle.std.specs.Prelude.{ℕ, List}
use Rattle.array.specs.Answer.{Answer, map_answer, Outcome}
use Rattle.array.specs.Cells.{Value}
use Rattle.table.specs.Table.{Table}
use Rattle.table.specs.Calls.{in_place}
use Rattle.table_setting.specs.Settle.{setting_answer}

-- a table after the answer a: set, or as it was
abbrev pub left : Answer Table → Table → Outcome (Unit {0}) Table
left a t = record { answer = map_answer (λ u. tt) a; buffers = in_place a t }

abbrev pub setting_by : ℕ → List ℕ → Value → Table → Outcome (Unit {0}) Table
setting_by c ms v t = left (setting_answer c ms v t) t
