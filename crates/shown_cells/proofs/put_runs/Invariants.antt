-- `put_runs` meets its contract, by the laws of Showing: cells that are all shown, or all not, a turn.
-- Assumes nothing.
use Prim.Native.Nat.{◌-◌}
use lib.ListN.{length}
use Rattle.shown_cells.proofs.Showing.{Showing}
use Rattle.shown_cells.proofs.put_runs.Given as goal

abbrev pub invariant-loop-i : goal.invariant-loop-i
invariant-loop-i l = Showing l.size l.values l.plane l.initial.out l.out l.i

abbrev pub decreases-loop-i : goal.decreases-loop-i
decreases-loop-i l = length l.plane - l.i
