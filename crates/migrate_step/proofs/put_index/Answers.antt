-- `put_index` meets its contract, by the laws of Indexing (proofs/Writing).
-- Assumes nothing.
use mathlib.Core.Path.{refl}
use native.Mathlib.Omega.{arith}
use Rattle.migrate_step.proofs.Writing.{index_begins, index_ends, index_fits, index_sum, index_more}
use Rattle.migrate_step.proofs.put_index.Goals as goal

pub loop-i-init : goal.loop-i-init
loop-i-init c = index_begins c.requires.found c.requires.room c.put_u64.ensures

pub le4_at-length-requires : goal.le4_at-length-requires
le4_at-length-requires c = omega (arith, index_fits c.loop-i.invariant c.loop-i-test.true _ refl)

pub overflow_add-from : goal.overflow_add-from
overflow_add-from c = omega (arith, index_fits c.loop-i.invariant c.loop-i-test.true _ c.le4_at-length.ensures)

pub overflow_add-end : goal.overflow_add-end
overflow_add-end c = omega (arith, index_sum c.loop-i.invariant c.loop-i-test.true _ c.le4_at-length.ensures)

pub overflow_add-from-in-loop-i : goal.overflow_add-from-in-loop-i
overflow_add-from-in-loop-i c = omega (arith, index_fits c.loop-i.invariant c.loop-i-test.true _ c.le4_at-length.ensures)

pub loop-i-preserved : goal.loop-i-preserved
loop-i-preserved c = index_more c.loop-i.invariant c.loop-i-test.true _ c.le4_at-length.ensures c.put_u64-in-loop-i.ensures

pub returns : goal.returns
returns c = index_ends c.loop-i.invariant c.loop-i-test.false
