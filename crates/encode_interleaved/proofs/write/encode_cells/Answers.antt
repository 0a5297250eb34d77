-- `interleaved::write::encode_cells` meets its contract, by the laws of Writes.
-- Assumes nothing.
use mathlib.Core.Path.{refl}
use Rattle.std.specs.Prelude.{Ok, Err}
use Rattle.std.proofs.lemmas.Result.{err_from_is_err_and}
use Rattle.array.specs.Meaning.{kind_of, lent}
use Rattle.encode_interleaved.proofs.Writes.{write_content, write_held}
use Rattle.encode_interleaved.proofs.write.encode_cells.Goals as goal

pub write_cells-requires : goal.write_cells-requires
write_cells-requires c =
    let a = c.args in
    let content = lent a.array in
    write_held (kind_of a.kind) a.cells content a.out.now {r = Ok tt} c.in_ok-check_array.ensures c.requires.0 refl c.requires.1

pub returns-in_err-check_array : goal.returns-in_err-check_array
returns-in_err-check_array c =
    let a = c.args in
    let content = lent a.array in
    let p = err_from_is_err_and c.from_residual.result c.from_residual.ensures.1 in
    rw (p.1, p.2) (write_content (kind_of a.kind) a.cells content a.out.now {r = Err c.in_err-check_array.field-0.0} c.in_err-check_array.ensures refl)
