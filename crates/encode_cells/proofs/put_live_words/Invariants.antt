-- `encode_cells::put_live_words` meets its contract: by the laws of Packing.
-- Assumes nothing.
use Prim.Native.Nat.{◌-◌}
use Rattle.array.specs.Meaning.{order_of}
use Rattle.live_cells.specs.Levels.{shown_in}
use Rattle.encode_cells.proofs.Gathering.{ordered_at}
use Rattle.encode_cells.proofs.Packing.{Packing}
use Rattle.encode_cells.proofs.put_live_words.Given as goal

abbrev pub invariant-loop-done : goal.invariant-loop-done
invariant-loop-done l = Packing (shown_in l.live.level) l.live.level.cells (ordered_at (order_of l.order) l.size.bytes l.s) l.size.bytes l.initial.out l.to l.out l.i l.done

abbrev pub decreases-loop-done : goal.decreases-loop-done
decreases-loop-done l = l.live.level.cells - l.i
