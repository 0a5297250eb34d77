-- `mark_subset` meets its contract: the rows before the iterator's place are marked (proofs/Marking).
-- Assumes nothing.
use Rattle.subset.proofs.Steps.{RowStep, row_step}
use Rattle.merge_cover.proofs.Marking.{marked_more, marked_over}
use Rattle.merge_cover.proofs.mark_subset.Goals.{In-Some}
use Rattle.merge_cover.proofs.mark_subset.Goals as goal

turn : (c : In-Some) → RowStep c.args.subset c.loop-row.row-iterator c.in-Some.row c.next.new.self
turn c = row_step c.args.subset c.loop-row.row-iterator c.loop-row.invariant.1 c.in-Some.row c.next.new.self c.in-Some.ensures.steps

pub returns-then-not-mark_run : goal.returns-then-not-mark_run
returns-then-not-mark_run c =
    let t = turn (goal.at.returns-then-not-mark_run c).In-Some in
    marked_over c.loop-row.invariant.0 t.row c.if-not-mark_run.ensures

pub loop-row-preserved : goal.loop-row-preserved
loop-row-preserved c =
    let t = turn (goal.at.loop-row-preserved c).In-Some in
    (rw t.on (marked_more c.loop-row.invariant.0 t.row c.if-not-mark_run.ensures), t.same)
