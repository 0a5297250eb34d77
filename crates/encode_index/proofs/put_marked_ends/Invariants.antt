-- `encode_index::put_marked_ends` meets its contract: by the laws of Indexing.
-- Assumes nothing.
use Prim.Native.Nat.{◌-◌}
use Rattle.array.specs.Meaning.{width_of}
use Rattle.live_cells.specs.Levels.{shown_in}
use Rattle.encode_index.proofs.Indexing.{Indexing}
use Rattle.encode_index.proofs.put_marked_ends.Given as goal

abbrev pub invariant-loop-done : goal.invariant-loop-done
invariant-loop-done l = Indexing (shown_in l.places.live.level) l.places.live.level.cells (width_of l.width) l.places.offsets.now l.initial.out l.to l.out l.i l.total l.done

abbrev pub decreases-loop-done : goal.decreases-loop-done
decreases-loop-done l = l.places.live.level.cells - l.i
