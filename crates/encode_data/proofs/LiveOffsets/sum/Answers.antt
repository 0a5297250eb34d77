-- `encode_data::LiveOffsets::sum` meets its contract: by the laws of Summing.
-- Assumes nothing.
use Prim.Native.Nat.{◌+◌}
use native.Mathlib.Omega.{arith}
use Rattle.encode_data.proofs.Summing.{summing_ends, summing_fits}
use Rattle.encode_data.proofs.LiveOffsets.sum.Goals as goal

pub overflow_add-total : goal.overflow_add-total
overflow_add-total c =
    let fits = summing_fits c.loop-i.invariant c.loop-i-test.true c.mark-mark.ensures in
    omega (arith, fits, c.type_inv.offsets (c.loop-i.i + 1))

pub returns : goal.returns
returns c = summing_ends c.loop-i.invariant (omega (arith, c.loop-i-test.false))
