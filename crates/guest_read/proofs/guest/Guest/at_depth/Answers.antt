-- `guest::Guest::at_depth` meets its contract: its level is the same.
-- Assumes nothing.
use Rattle.guest_read.proofs.Same.{guest_same}
use Rattle.guest_read.proofs.guest.Guest.at_depth.Goals as goal

pub returns : goal.returns
returns c = guest_same c.args.self c.at_depth.ensures _ _
