-- `live_cells::Counted::at_depth` meets its contract: its level is the same.
-- Assumes nothing.
use Rattle.live_cells.proofs.Levels.{counted_same}
use Rattle.live_cells.proofs.Counted.at_depth.Goals as goal

pub returns : goal.returns
returns c = counted_same c.args.self c.at_depth.ensures _
