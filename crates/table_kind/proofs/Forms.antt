-- The kind and the count of a working table come before all else that a call asks, and what they say.
-- Assumes nothing.
use mathlib.Core.Path.{◌≡◌, refl, sym, ap, ◌∙◌}
use mathlib.Core.Bool.{Bool, true, false}
use Prim.Native.Nat.{ℕ}
use Rattle.array.specs.Answer.{Answer, gives, refuses, and_then, unless}
use Rattle.array.specs.Kind.{Kind}
use Rattle.array.specs.Meaning.{kind_of}
use Rattle.array.specs.declared.kind.Kind as declared
use Rattle.table.specs.Table.{table_kind_test, count_test}
use Rattle.table_kind.specs.declared.TableShape.{TableShape}
use Rattle.table_kind.specs.Shape.{shape_answer}

-- two tests, and what is behind them by what they answer
abbrev two : Bool → Bool → Answer (Unit {0})
two a b = unless a 1 (unless b 2 (gives tt))

behind : {A : Type 0} (a b : Bool) (r : Answer A) → unless a 1 (unless b 2 r) ≡ and_then (two a b) (λ u. r)
behind true true r = refl
behind true false r = refl
behind false b r = refl

pub shape_refused : {A : Type 0} (k : Kind) (n : ℕ) {m : ℕ} → shape_answer k n ≡ refuses m → (r : Answer A) → refuses m ≡ unless (table_kind_test k) 1 (unless (count_test n) 2 r)
shape_refused k n e r = sym (behind (table_kind_test k) (count_test n) r ∙ ap (λ (a : Answer (Unit {0})). and_then a (λ u. r)) e)

-- and what a call knows of those that were taken
pub shape_taken : {k : declared.Kind} {n : ℕ} (s : TableShape) → (s.kind ≡ k) × (s.cells ≡ n) → (table_kind_test (kind_of k) ≡ true) × (count_test n ≡ true)
shape_taken s e = (ap (λ (k : declared.Kind). table_kind_test (kind_of k)) (sym e.0) ∙ s.sound, ap count_test (sym e.1) ∙ s.counted)
