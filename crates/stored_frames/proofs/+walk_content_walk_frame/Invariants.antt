-- The walk of contents and frames ends: the remaining depth falls from a frame to its content.
-- Assumes nothing.
use Rattle.std.proofs.Common.{◌+◌, ◌*◌}
use Rattle.stored_frames.proofs.+walk_content_walk_frame.Given as goal

abbrev pub decreases-walk_content : goal.decreases-walk_content
decreases-walk_content l = 2 * l.depth

abbrev pub decreases-walk_frame : goal.decreases-walk_frame
decreases-walk_frame l = 2 * l.below + 1
