-- `next` of the rows meets its contract: a row begins at the iterator's place (proofs/Rows).
-- Assumes nothing.
use mathlib.Core.Path.{refl}
use native.Mathlib.Omega.{arith}
use Rattle.subset.specs.Walk.{RowAt}
use Rattle.subset.specs.Cells.{cells_of}
use Rattle.subset.proofs.Rows.{asked_few, row_long}
use Rattle.subset.proofs.walk.RowsIterator.next.Goals.{After-cell_at-first}
use Rattle.subset.proofs.walk.RowsIterator.next.Goals as goal

row : (c : After-cell_at-first) → let s = c.args.self.now in
    RowAt s.subset.shape.now s.subset.lens.now (cells_of s.subset) s.subset.count s.at c.cell_at-first.result s.cells
row c =
    let s = c.args.self.now in
    row_long s.subset.asked c.requires (omega arith) c.cell_at-first.ensures s.as_long

pub overflow_add-self : goal.overflow_add-self
overflow_add-self c = omega (arith, (row c).within, asked_few c.args.self.now.subset.asked)

pub returns-clause-steps : goal.returns-clause-steps
returns-clause-steps c = (row (goal.at.returns-clause-steps c).After-cell_at-first, refl, refl, refl)

pub returns-clause-goes : goal.returns-clause-goes
returns-clause-goes c =
    let r = row (goal.at.returns-clause-goes c).After-cell_at-first in
    record { on = λ _. (r.rest, tt, omega (arith, r.some, r.within)); keeps = r.rest; rests = λ _. tt }
