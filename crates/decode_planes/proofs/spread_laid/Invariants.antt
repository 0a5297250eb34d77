-- `spread_laid` meets its contract, by the laws of Placing.
-- Assumes nothing.
use Prim.Native.Nat.{◌-◌}
use Rattle.decode_planes.proofs.Placing.{Placing}
use Rattle.decode_planes.proofs.spread_laid.Given as goal

abbrev pub invariant-loop-j : goal.invariant-loop-j
invariant-loop-j l = Placing l.initial.masks l.from l.to l.n l.cells l.masks l.i l.j

abbrev pub decreases-loop-j : goal.decreases-loop-j
decreases-loop-j l = l.n - l.i
