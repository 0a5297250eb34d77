-- `cell::draw_few` meets its contract, by the laws of Drawing.
-- Assumes nothing.
use native.Mathlib.Omega.{arith}
use Rattle.generate.proofs.Drawing.{store_begins, store_more, store_ends, skip_ends}
use Rattle.generate.proofs.cell.draw_few.Goals as goal

pub loop-i-init : goal.loop-i-init
loop-i-init c = store_begins _ _ _ _ c.requires

pub loop-i-preserved : goal.loop-i-preserved
loop-i-preserved c = store_more c.loop-i.invariant c.draw-drawn.ensures (omega arith)

pub returns : goal.returns
returns c = record { draws = skip_ends c.loop-i.invariant.skipped (omega arith); stores = store_ends c.loop-i.invariant (omega arith) }
