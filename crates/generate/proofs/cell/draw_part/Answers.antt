-- `cell::draw_part` meets its contract, by the laws of Drawing.
-- Assumes nothing.
use native.Mathlib.Omega.{arith}
use Rattle.load.specs.Generator.{draw_bytes}
use Rattle.generate.proofs.Drawing.{store_begins, store_ahead, store_ends}
use Rattle.generate.proofs.cell.draw_part.Goals as goal

pub loop-i-init : goal.loop-i-init
unfolding draw_bytes
loop-i-init c = store_begins _ _ _ _ c.requires.0

pub loop-i-preserved : goal.loop-i-preserved
loop-i-preserved c = store_ahead c.loop-i.invariant (omega arith) c.state_after.ensures

pub returns-clause-stores : goal.returns-clause-stores
returns-clause-stores c = store_ends c.loop-i.invariant (omega arith)
