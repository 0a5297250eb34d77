-- `cell::draw_parts` meets its contract, by the laws of Drawing.
-- Assumes nothing.
use Prim.Native.Nat.{◌-◌}
use native.Mathlib.Omega.{arith}
use Rattle.generate.proofs.Drawing.{store_begins, store_part, store_ends, skip_ends}
use Rattle.generate.proofs.cell.draw_parts.Goals as goal

pub loop-i-init : goal.loop-i-init
loop-i-init c = store_begins _ _ _ _ c.requires

pub loop-i-preserved : goal.loop-i-preserved
loop-i-preserved c = store_part c.loop-i.invariant 16 (omega (arith, c.loop-i-test.true)) c.draw_part-g.ensures.stores c.draw_part-g.ensures.draws

pub returns-then-i-n : goal.returns-then-i-n
returns-then-i-n c =
    let inv = c.loop-i.invariant in
    record { draws = skip_ends inv.skipped (omega (arith, c.if-i-n.true)); stores = store_ends inv (omega (arith, c.if-i-n.true)) }

pub returns-clause-stores : goal.returns-clause-stores
returns-clause-stores c =
    let inv = c.loop-i.invariant in
    store_ends (store_part inv (c.args.n - c.loop-i.i) (omega (arith, inv.skipped.within)) c.draw_part.ensures.stores c.draw_part.ensures.draws) (omega arith)
