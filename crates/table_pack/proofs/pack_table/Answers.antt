-- `pack_table` meets its contract: refusals 1 and 2 (Outcomes), and then the table with room for its order.
-- Assumes nothing.
use mathlib.Core.Path.{sym}
use Rattle.std.proofs.lemmas.Result.{err_from_is_err_and}
use Rattle.array.specs.Meaning.{kind_of}
use Rattle.table.specs.Meaning.{table_by}
use Rattle.table_pack.proofs.Outcomes.{no_most, unshaped}
use Rattle.table_pack.proofs.pack_table.Goals as goal

pub returns-then-not-most_ok : goal.returns-then-not-most_ok
returns-then-not-most_ok c =
    let a = c.args in
    no_most (kind_of a.kind) a.cells a.most (table_by a.masks.now a.starts.now a.lengths.now a.store.now) (sym c.if-not-most_ok.ensures)

pub returns-in_err-shape : goal.returns-in_err-shape
returns-in_err-shape c =
    let p = err_from_is_err_and c.from_residual.result c.from_residual.ensures.1 in
    let a = c.args in
    rw (p.1, p.2) (unshaped (kind_of a.kind) a.cells a.most (table_by a.masks.now a.starts.now a.lengths.now a.store.now)
    (sym c.if-not-most_ok.ensures) c.in_err-shape.ensures)
