-- `place_plane` meets its contract: the mask laid at the plane's end, and spread from there (Placing).
-- Assumes nothing.
use native.Mathlib.Omega.{arith}
use Rattle.decode_planes.proofs.Placing.{few, mask_fits, laid_within, laid_spread, laid_all}
use Rattle.decode_planes.proofs.place_plane.Goals as goal

pub overflow_sub-n : goal.overflow_sub-n
overflow_sub-n c = omega (arith, few c.requires.planes)

pub copy_to_plane-requires : goal.copy_to_plane-requires
copy_to_plane-requires c = (mask_fits c.requires, c.requires.stored)

pub spread_laid-requires : goal.spread_laid-requires
spread_laid-requires c = laid_within c.requires c.copy_to_plane.ensures

pub returns-then-cells-n : goal.returns-then-cells-n
returns-then-cells-n c = laid_spread c.requires c.copy_to_plane.ensures c.spread_laid.ensures

pub returns-else-cells-n : goal.returns-else-cells-n
returns-else-cells-n c = laid_all c.requires c.copy_to_plane.ensures c.if-cells-n.false
