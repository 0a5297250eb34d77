-- `preview_cell` meets its contract: refusals 1 and 2, each in its turn, and then what preview_with leaves.
-- Assumes nothing.
use Rattle.std.proofs.lemmas.Result.{err_from_is_err_and}
use Rattle.array.specs.Meaning.{kind_of}
use Rattle.table.specs.Meaning.{lent_table}
use Rattle.table_setting.proofs.Outcomes.{unshaped}
use Rattle.table_preview.proofs.Outcomes.{preview_is}
use Rattle.table_preview.proofs.preview_cell.Goals as goal

pub returns-in_err-shape : goal.returns-in_err-shape
returns-in_err-shape c =
    let p = err_from_is_err_and c.from_residual.result c.from_residual.ensures.1 in
    let a = c.args in
    rw (p.1, p.2) (preview_is (kind_of a.kind) a.cells (lent_table a.table) a.setting
    (unshaped (kind_of a.kind) a.cells (lent_table a.table) a.setting c.in_err-shape.ensures))
