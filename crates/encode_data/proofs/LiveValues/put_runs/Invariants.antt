-- `encode_data::LiveValues::put_runs` meets its contract: by the laws of Slicing.
-- Assumes nothing.
use Prim.Native.Nat.{◌-◌}
use Rattle.live_cells.specs.Levels.{shown_in}
use Rattle.encode_data.proofs.Slicing.{Slicing}
use Rattle.encode_data.proofs.LiveValues.put_runs.Given as goal

abbrev pub invariant-loop-i : goal.invariant-loop-i
invariant-loop-i l =
    let places = l.self.places in
    Slicing (shown_in places.live.level) places.live.level.cells places.offsets.now l.self.values.now l.initial.out l.to l.out l.i l.done

abbrev pub decreases-loop-i : goal.decreases-loop-i
decreases-loop-i l = l.self.places.live.level.cells - l.i
