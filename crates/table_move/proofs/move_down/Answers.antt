-- `table_move::move_down` meets its contract: a copy of the bytes as they were, since none is written over before it is read.
-- Assumes nothing.
use Prim.Native.Nat.{◌+◌, ◌-◌}
use native.Mathlib.Omega.{arith}
use Rattle.buffer.proofs.Copying.{Copying, copy_ends}
use Rattle.table_move.proofs.Within.{part_moved}
use Rattle.table_move.proofs.move_down.Goals as goal

pub loop-done-preserved : goal.loop-done-preserved
loop-done-preserved c = part_moved c.loop-done.invariant c.requires.0 256 (omega arith) c.move_few.ensures

pub returns : goal.returns
returns c =
    let last : let a = c.args in Copying a.store.now a.to a.store.now a.from a.n c.move_few-2.new.store (c.loop-done.done + (a.n - c.loop-done.done)) =
    part_moved c.loop-done.invariant c.requires.0 (c.args.n - c.loop-done.done) (omega (arith, c.loop-done.invariant.within)) c.move_few-2.ensures in
    copy_ends last (omega arith)
