-- `content_length` ends: the levels that are left fall with each call.
-- Assumes nothing.
use Rattle.encode_length.proofs.+content_length.Given as goal

abbrev pub decreases-content_length : goal.decreases-content_length
decreases-content_length l = l.left
