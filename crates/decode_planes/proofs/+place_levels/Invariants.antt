-- `place_levels` ends: the levels that are left fall with each call.
-- Assumes nothing.
use Rattle.decode_planes.proofs.+place_levels.Given as goal

abbrev pub decreases-place_levels : goal.decreases-place_levels
decreases-place_levels l = l.left
