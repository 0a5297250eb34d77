-- Contents and frames come to an end: a frame has one level fewer left than the content that holds it.
-- Assumes nothing.
use Rattle.std.proofs.Common.{◌+◌, ◌*◌}
use Rattle.encode_frames.proofs.+write_content_write_frame.Given as goal

abbrev pub decreases-write_content : goal.decreases-write_content
decreases-write_content l = 2 * l.left + 1

abbrev pub decreases-write_frame : goal.decreases-write_frame
decreases-write_frame l = 2 * l.left
