-- `put_levels` meets its contract, by the laws of Descending.
-- Assumes nothing.
use Prim.Native.Nat.{◌*◌}
use Rattle.rest_masks.proofs.Descending.{Descending}
use Rattle.rest_masks.proofs.put_levels.Given as goal

abbrev pub invariant-loop-l : goal.invariant-loop-l
invariant-loop-l l = Descending l.cells l.masks l.left l.initial.out l.out l.l (l.l * l.cells)
