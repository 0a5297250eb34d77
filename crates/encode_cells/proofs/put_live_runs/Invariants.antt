-- `encode_cells::put_live_runs` meets its contract: by the laws of Storing.
-- Assumes nothing.
use Prim.Native.Nat.{◌-◌}
use Rattle.array.specs.Meaning.{order_of}
use Rattle.live_cells.specs.Levels.{shown_in}
use Rattle.encode_cells.proofs.Gathering.{Storing}
use Rattle.encode_cells.proofs.put_live_runs.Given as goal

abbrev pub invariant-loop-i : goal.invariant-loop-i
invariant-loop-i l = Storing (order_of l.order) l.size l.s (shown_in l.level) l.level.cells l.initial.out l.to l.out l.i l.done

abbrev pub decreases-loop-i : goal.decreases-loop-i
decreases-loop-i l = l.level.cells - l.i
