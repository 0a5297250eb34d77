-- `set_cell` meets its contract: refusals 1 and 2, each in its turn, and then what set_with leaves.
-- Assumes nothing.
use Rattle.std.proofs.lemmas.Result.{err_from_is_err_and}
use Rattle.array.specs.Meaning.{kind_of}
use Rattle.table.specs.Table.{Table}
use Rattle.table.specs.Meaning.{table_by}
use Rattle.table_setting.proofs.Outcomes.{unshaped}
use Rattle.table_set.proofs.Outcomes.{set_is}
use Rattle.table_set.proofs.set_cell.Goals as goal

pub returns-in_err-shape : goal.returns-in_err-shape
returns-in_err-shape c =
    let p = err_from_is_err_and c.from_residual.result c.from_residual.ensures.1 in
    let a = c.args in
    let table : Table = table_by a.masks.now a.starts.now a.lengths.now a.store.now in
    rw (p.1, p.2) (set_is (kind_of a.kind) a.cells table a.setting (unshaped (kind_of a.kind) a.cells table a.setting c.in_err-shape.ensures))
