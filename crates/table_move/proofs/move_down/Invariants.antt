-- `table_move::move_down` meets its contract: a copy of the bytes as they were, since none is written over before it is read.
-- Assumes nothing.
use Prim.Native.Nat.{◌-◌}
use Rattle.buffer.proofs.Copying.{Copying}
use Rattle.table_move.proofs.move_down.Given as goal

abbrev pub invariant-loop-done : goal.invariant-loop-done
invariant-loop-done l = Copying l.initial.store l.to l.initial.store l.from l.n l.store l.done

abbrev pub decreases-loop-done : goal.decreases-loop-done
decreases-loop-done l = l.n - l.done
