-- `masks::put_masks` meets its contract, by the law of a column.
-- Assumes nothing.
use lib.ListN.{length, get_or}
use Rattle.table_setting.proofs.Columns.{Storing}
use Rattle.table_setting.proofs.masks.put_masks.Given as goal

abbrev pub invariant-loop-b : goal.invariant-loop-b
invariant-loop-b at = Storing at.initial.masks at.n at.setting.cell (λ l. get_or at.setting.masks.now l 0) (length at.setting.masks.now) at.masks at.shown at.place at.b-index
