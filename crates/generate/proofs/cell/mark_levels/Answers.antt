-- `cell::mark_levels` meets its contract, by the laws of Drawing and Columns.
-- Assumes nothing.
use native.Mathlib.Omega.{arith}
use Rattle.generate.proofs.Drawing.{climb_null, climb_more, climb_ends}
use Rattle.generate.proofs.Columns.{mark_more}
use Rattle.generate.proofs.cell.mark_levels.Goals as goal

pub returns-then-drawn-eq0-clause-draws : goal.returns-then-drawn-eq0-clause-draws
returns-then-drawn-eq0-clause-draws c = climb_null c.loop-set.invariant.0 c.draw-drawn.ensures (omega arith) c.if-drawn-eq0.true

pub loop-set-preserved : goal.loop-set-preserved
loop-set-preserved c =
    let inv = c.loop-set.invariant in
    (climb_more inv.0 c.draw-drawn.ensures (omega arith) c.if-drawn-eq0.false, mark_more inv.1)

pub returns-clause-draws : goal.returns-clause-draws
returns-clause-draws c = climb_ends c.loop-set.invariant.0 (omega arith)
