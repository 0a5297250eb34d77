-- `store_rows` meets its contract: the rows before the iterator's place lie in place (proofs/StoringCells).
-- Assumes nothing.
use Rattle.subset.proofs.Steps.{RowStep, row_step}
use Rattle.subset.proofs.StoringCells.{stored_more}
use Rattle.subset.proofs.store_rows.Goals.{In-Some}
use Rattle.subset.proofs.store_rows.Goals as goal

turn : (c : In-Some) → RowStep c.args.subset c.loop-row.row-iterator c.in-Some.row c.next.new.self
turn c = row_step c.args.subset c.loop-row.row-iterator c.loop-row.invariant.1 c.in-Some.row c.next.new.self c.in-Some.ensures.steps

pub loop-row-preserved : goal.loop-row-preserved
loop-row-preserved c =
    let t = turn (goal.at.loop-row-preserved c).In-Some in
    (rw t.on (stored_more c.loop-row.invariant.0 t.row (rw t.here at c.store_run.ensures)), t.same)
