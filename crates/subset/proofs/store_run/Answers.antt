-- `store_run` meets its contract: the first i of the run lie in place (proofs/StoringCells).
-- Assumes nothing.
use native.Mathlib.Omega.{arith}
use Rattle.subset.proofs.StoringCells.{run_begins, run_more, run_ends}
use Rattle.subset.proofs.store_run.Goals as goal

pub loop-i-init : goal.loop-i-init
loop-i-init c = (omega arith, run_begins c.args.cells.now c.args.at c.args.first c.args.n c.requires.0)

pub loop-i-preserved : goal.loop-i-preserved
loop-i-preserved c =
    let a = c.args in
    (omega arith, run_more a.cells.now a.at a.first a.n c.loop-i.cells c.loop-i.i c.loop-i.invariant.1 c.loop-i-test.true)

pub returns : goal.returns
returns c =
    let a = c.args in
    run_ends a.cells.now a.at a.first a.n c.loop-i.cells c.loop-i.i c.loop-i.invariant.1 c.loop-i-test.false
