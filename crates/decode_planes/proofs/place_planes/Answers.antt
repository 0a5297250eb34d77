-- `place_planes` meets its contract: the first plane, and the others behind it (AllPlanes).
-- Assumes nothing.
use native.Mathlib.Omega.{arith}
use Rattle.decode_planes.proofs.AllPlanes.{first_mask, first_fits, first_next, planes_one, planes_done}
use Rattle.decode_planes.proofs.place_planes.Goals as goal

pub copy_to_plane-requires : goal.copy_to_plane-requires
copy_to_plane-requires c =
    let pre = c.requires in omega (arith, (first_mask pre).room, first_fits pre)

pub count_stored-set-requires : goal.count_stored-set-requires
count_stored-set-requires c =
    let pre = c.requires in record { room = omega (arith, (first_mask pre).room); passed = (first_mask pre).passed }

pub place_levels-requires : goal.place_levels-requires
place_levels-requires c = first_next c.requires c.mask_length-end.ensures c.copy_to_plane.ensures c.count_stored-set.ensures

pub returns-then-depth-eq1 : goal.returns-then-depth-eq1
returns-then-depth-eq1 c = planes_one c.requires c.if-depth-eq1.true c.copy_to_plane.ensures

pub returns : goal.returns
returns c = planes_done c.requires c.mask_length-end.ensures c.copy_to_plane.ensures c.count_stored-set.ensures c.place_levels.ensures
