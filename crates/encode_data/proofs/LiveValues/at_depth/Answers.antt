-- `encode_data::LiveValues::at_depth` meets its contract: its offsets are the same.
-- Assumes nothing.
use Rattle.encode_data.proofs.Same.{values_same}
use Rattle.encode_data.proofs.LiveValues.at_depth.Goals as goal

pub returns : goal.returns
returns c = values_same c.args.self c.at_depth.ensures _
