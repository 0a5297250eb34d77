-- `sum_up` meets its contract: the first i lengths are summed (proofs/Summing).
-- Assumes nothing.
use native.Mathlib.Omega.{arith}
use lib.ListN.{set, length-set}
use Rattle.merge_stores.proofs.Summing.{summed_more}
use Rattle.merge_stores.proofs.ragged.sum_up.Goals as goal

pub loop-i-preserved : goal.loop-i-preserved
loop-i-preserved c =
    let d = c.args.out.now in
    summed_more (set d 0 0) c.args.n (omega (arith, length-set d 0 0)) c.loop-i.invariant (omega arith)
