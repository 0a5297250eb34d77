-- `encode_masks::gather_masks` meets its contract: by the laws of Blocks.
-- Assumes nothing.
use Prim.Native.Nat.{◌-◌}
use Rattle.encode_masks.proofs.Blocks.{Picking}
use Rattle.encode_masks.proofs.gather_masks.Given as goal

abbrev pub invariant-loop-done : goal.invariant-loop-done
invariant-loop-done l = Picking l.level.cells l.level.masks.now l.level.depth l.initial.block l.start l.m l.block l.i l.done

abbrev pub decreases-loop-done : goal.decreases-loop-done
decreases-loop-done l = l.level.cells - l.i
