-- `encode_data::LiveOffsets::sum` meets its contract: by the laws of Summing.
-- Assumes nothing.
use Rattle.live_cells.specs.Levels.{shown_in}
use Rattle.encode_data.proofs.Summing.{Summing}
use Rattle.encode_data.proofs.LiveOffsets.sum.Given as goal

abbrev pub invariant-loop-i : goal.invariant-loop-i
invariant-loop-i l = Summing (shown_in l.self.live.level) l.self.live.level.cells l.self.offsets.now l.total l.i
