-- What a setting leaves behind, by its answer.
-- Assumes nothing.
use mathlib.Core.Path.{◌≡◌, ap, ◌∙◌}
use mathlib.Core.List.{List}
use Prim.Native.Nat.{ℕ}
use lib.ListN.{length}
use Rattle.array.specs.Answer.{Answer, map_answer}
use Rattle.array.specs.Kind.{Kind}
use Rattle.array.specs.Cells.{Value}
use Rattle.table.specs.Table.{Table}
use Rattle.table.specs.declared.lent.Setting.{Setting}
use Rattle.table.specs.Calls.{set_answer, cell_set}
use Rattle.table_setting.specs.declared.fit.Fitting.{Fitting}
use Rattle.table_setting.specs.Fit.{fitted}
use Rattle.table_setting.specs.Settle.{Sound, settled_by}
use Rattle.table_setting.proofs.Judging.{fitted_is}
use Rattle.table_set.specs.Settle.{left, setting_by}

pub set_is : (k : Kind) (n : ℕ) (t : Table) (u : Setting) {a : Answer Table} → a ≡ set_answer k n t u.cell u.masks.now u.value.now
    → left a t ≡ cell_set k n t u.cell u.masks.now u.value.now
unfolding cell_set
set_is k n t u e = ap (λ (a : Answer Table). left a t) e

-- a table that keeps its rules: the setting does not fit, or is made
module _ {room : ℕ} {t : Table} {ms : List ℕ} (s : Sound room t ms) (c : ℕ) (v : Value) {a : Answer Fitting}
    (e : a ≡ fitted t.lengths (length t.store) c ms (length v)) where
  pub fits_by : left (map_answer (λ f. settled_by c ms v t) a) t ≡ setting_by c ms v t
  fits_by = ap (λ (b : Answer Table). left b t) (ap (map_answer (λ f. settled_by c ms v t)) e ∙ fitted_is s c v)
