-- `interleaved::write::encode_one` meets its contract, by the laws of Writes.
-- Assumes nothing.
use mathlib.Core.Path.{refl, ap, ◌∙◌}
use mathlib.Core.List.{List}
use native.Mathlib.Omega.{arith}
use Rattle.std.specs.Prelude.{Ok, Err}
use Rattle.std.proofs.lemmas.Result.{err_from_is_err_and}
use Rattle.array.specs.Limits.{most_cells}
use Rattle.array.specs.Cells.{Value}
use Rattle.encode_interleaved.specs.Held.{put_fitting}
use Rattle.encode_interleaved.proofs.Storing.{one_cell}
use Rattle.array.specs.Meaning.{kind_of, lent}
use Rattle.encode_interleaved.proofs.Writes.{write_content, write_held, write_rest}
use Rattle.encode_interleaved.proofs.write.encode_one.Goals as goal

pub check_array-requires : goal.check_array-requires
unfolding most_cells
check_array-requires c = omega arith

pub returns-in_err-check_array : goal.returns-in_err-check_array
returns-in_err-check_array c =
    let a = c.args in
    let content = lent a.array in
    let p = err_from_is_err_and c.from_residual.result c.from_residual.ensures.1 in
    rw (p.1, p.2) (write_content (kind_of a.kind) 1 content a.out.now {r = Err c.in_err-check_array.field-0.0} c.in_err-check_array.ensures refl)

pub returns : goal.returns
unfolding most_cells
returns c =
    let a = c.args in
    let content = lent a.array in
    let held = write_held (kind_of a.kind) 1 content a.out.now {r = Ok tt} c.in_ok-check_array.ensures c.requires refl (omega arith) in
    c.write_one.ensures
    ∙ ap (λ (vs : List Value). put_fitting vs a.out.now) (one_cell held)
    ∙ write_rest (kind_of a.kind) 1 content a.out.now {r = Ok tt} c.in_ok-check_array.ensures c.requires refl
