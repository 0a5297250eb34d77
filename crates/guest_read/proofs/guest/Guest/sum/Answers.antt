-- `guest::Guest::sum` meets its contract, by the laws of Summing.
-- Assumes nothing.
use Prim.Native.Nat.{◌+◌}
use native.Mathlib.Omega.{arith}
use Rattle.encode_data.proofs.Summing.{summing_ends, summing_rises, summing_fits}
use Rattle.guest_read.proofs.guest.Guest.sum.Goals as goal

pub overflow_sub-total : goal.overflow_sub-total
overflow_sub-total c = summing_rises c.loop-i.invariant c.loop-i-test.true

pub overflow_add-total : goal.overflow_add-total
overflow_add-total c = omega (arith, summing_fits c.loop-i.invariant c.loop-i-test.true c.mark-mark.ensures, c.type_inv.offsets (c.loop-i.i + 1))

pub returns : goal.returns
returns c = summing_ends c.loop-i.invariant c.loop-i-test.false
