-- `put_data` meets its contract, by the laws of Copying (proofs/Writing).
-- Assumes nothing.
use mathlib.Core.Path.{refl}
use native.Mathlib.Omega.{arith}
use Rattle.migrate_step.proofs.Writing.{copy_ends, copy_fits, copy_room, copy_more}
use Rattle.migrate_step.proofs.put_data.Goals as goal

pub le4_at-length-requires : goal.le4_at-length-requires
le4_at-length-requires c = omega (arith, copy_fits c.loop.invariant c.loop-test.true _ refl)

pub overflow_add-from : goal.overflow_add-from
overflow_add-from c = omega (arith, copy_fits c.loop.invariant c.loop-test.true _ c.le4_at-length.ensures)

pub copy_exactly-requires : goal.copy_exactly-requires
copy_exactly-requires c =
    let e = c.le4_at-length.ensures in
    (copy_room c.loop.invariant c.loop-test.true _ e, copy_fits c.loop.invariant c.loop-test.true _ e)

pub overflow_add-from-in-loop : goal.overflow_add-from-in-loop
overflow_add-from-in-loop c = omega (arith, copy_fits c.loop.invariant c.loop-test.true _ c.le4_at-length.ensures)

pub overflow_add-to : goal.overflow_add-to
overflow_add-to c = omega (arith, copy_room c.loop.invariant c.loop-test.true _ c.le4_at-length.ensures)

pub loop-preserved : goal.loop-preserved
loop-preserved c = copy_more c.loop.invariant c.loop-test.true _ c.le4_at-length.ensures c.copy_exactly.ensures

pub returns : goal.returns
returns c = copy_ends c.loop.invariant c.loop-test.false
