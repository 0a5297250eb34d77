-- `live_cells::Level::at_depth` meets its contract: the depth is the level's.
-- Assumes nothing.
use Rattle.live_cells.proofs.Levels.{level_same}
use Rattle.live_cells.proofs.Level.at_depth.Goals as goal

pub returns : goal.returns
returns c = level_same c.args.self c.requires _ _
