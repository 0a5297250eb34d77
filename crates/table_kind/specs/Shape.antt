-- Redundant by the law shape_refused in table_kind/proofs/Forms.antt: the kind and the count of a working table (S13.1), asked before all else.
-- Assumes nothing.
use Rattle.std.specs.Prelude.{ℕ, ◌≡◌, Result, Ok, Err}
use Rattle.array.specs.declared.kind.Kind as declared
use Rattle.array.specs.declared.refusal.Refusal.{Refusal}
use Rattle.array.specs.Answer.{Answer, gives, refuses, unless}
use Rattle.array.specs.Kind.{Kind}
use Rattle.array.specs.Meaning.{kind_of, number_of}
use Rattle.table.specs.Table.{table_kind_test, count_test}
use Rattle.table_kind.specs.declared.TableShape.{TableShape}

-- 1, or 2, or they are taken
abbrev pub shape_answer : Kind → ℕ → Answer (Unit {0})
shape_answer k n = unless (table_kind_test k) 1 (unless (count_test n) 2 (gives tt))

-- the kind and the count as they were handed over, or the refusal
abbrev pub Shaped : declared.Kind → ℕ → Result TableShape Refusal → Type 0
Shaped k n (Ok s) = (s.kind ≡ k) × (s.cells ≡ n)
Shaped k n (Err e) = shape_answer (kind_of k) n ≡ refuses (number_of e)
