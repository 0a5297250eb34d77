-- `encode_data::LiveOffsets::at_depth` meets its contract: its level is the same.
-- Assumes nothing.
use Rattle.encode_data.proofs.Same.{offsets_same}
use Rattle.encode_data.proofs.LiveOffsets.at_depth.Goals as goal

pub returns : goal.returns
returns c = offsets_same c.args.self c.at_depth.ensures _
