-- `spread_offsets` meets its contract, by the laws of SpreadingOffsets.
-- Assumes nothing.
use Prim.Native.Nat.{◌-◌}
use lib.ListN.{length}
use Rattle.decode_offsets.proofs.SpreadingOffsets.{SpreadingOffsets}
use Rattle.decode_offsets.proofs.spread_offsets.Given as goal

abbrev pub invariant-loop-k : goal.invariant-loop-k
invariant-loop-k l = SpreadingOffsets l.w l.plane l.s l.initial.offsets l.at l.cells l.offsets l.i l.k

abbrev pub decreases-loop-k : goal.decreases-loop-k
decreases-loop-k l = length l.plane - l.i
