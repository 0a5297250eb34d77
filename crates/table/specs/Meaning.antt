-- docs/SPEC.md, S6.13: what the calls on a table leave behind, by their declared answers, and the lent slices as a table.
-- Assumes nothing.
use Rattle.std.specs.Prelude.{List, ℕ, Result}
use Rattle.table.specs.declared.answer.TableLengths.{TableLengths}
use Rattle.table.specs.declared.lent.Table as declared
use Rattle.array.specs.declared.refusal.Refusal.{Refusal}
use Rattle.array.specs.Answer.{Outcome}
use Rattle.array.specs.Meaning.{told}
use Rattle.table.specs.Table.{Table}

abbrev pub table_by : List ℕ → List ℕ → List ℕ → List ℕ → Table
table_by m s l b = record { masks = m; starts = s; lengths = l; store = b }

-- a table as it is handed over
abbrev pub lent_table : declared.Table → Table
lent_table t = table_by t.masks.now t.starts.now t.lengths.now t.store.now

-- what a call leaves behind, its answer and the lent slices as they are then
abbrev pub outcome_table : Result TableLengths Refusal → List ℕ → List ℕ → List ℕ → List ℕ → Outcome TableLengths Table
outcome_table r m s l b = record { answer = told r; buffers = table_by m s l b }

-- a setting that was made names nothing
abbrev pub outcome_settled : Result (Unit {0}) Refusal → List ℕ → List ℕ → List ℕ → List ℕ → Outcome (Unit {0}) Table
outcome_settled r m s l b = record { answer = told r; buffers = table_by m s l b }

-- a packing call names how many it moved
abbrev pub outcome_packed : Result ℕ Refusal → List ℕ → List ℕ → List ℕ → List ℕ → Outcome ℕ Table
outcome_packed r m s l b = record { answer = told r; buffers = table_by m s l b }
