-- `place_levels` meets its contract, by the laws of Levels.
-- Assumes nothing.
use Rattle.std.proofs.Common.{arith}
use Rattle.decode_planes.proofs.Levels.{levels_none, levels_null, levels_mask, levels_plane, levels_last, levels_next, levels_done}
use Rattle.decode_planes.proofs.+place_levels.Goals as goal

pub returns-then-left-eq0 : goal.returns-then-left-eq0
returns-then-left-eq0 t c = levels_none c.requires c.if-left-eq0.true

pub returns-then-cells-eq0 : goal.returns-then-cells-eq0
returns-then-cells-eq0 t c = levels_null c.requires c.if-cells-eq0.true c.fill_bytes.ensures

pub overflow_add-mask : goal.overflow_add-mask
overflow_add-mask t c = omega (arith, (levels_mask c.requires c.if-left-eq0.false c.if-cells-eq0.false).room)

pub overflow_add-end : goal.overflow_add-end
overflow_add-end t c = omega (arith, (levels_mask c.requires c.if-left-eq0.false c.if-cells-eq0.false).room, c.mask_length.ensures)

pub place_plane-requires : goal.place_plane-requires
place_plane-requires t c = levels_plane c.requires c.if-left-eq0.false c.if-cells-eq0.false

pub returns-then-left-eq1 : goal.returns-then-left-eq1
returns-then-left-eq1 t c = levels_last c.requires c.if-left-eq0.false c.if-cells-eq0.false c.if-left-eq1.true c.place_plane.ensures

pub count_stored-set-requires-clause-room : goal.count_stored-set-requires-clause-room
count_stored-set-requires-clause-room t c = omega (arith, (levels_mask c.requires c.if-left-eq0.false c.if-cells-eq0.false).room)

pub count_stored-set-requires-clause-passed : goal.count_stored-set-requires-clause-passed
count_stored-set-requires-clause-passed t c = (levels_mask c.requires c.if-left-eq0.false c.if-cells-eq0.false).passed

pub place_levels-requires : goal.place_levels-requires
place_levels-requires t c = (
  omega arith,
  levels_next c.requires c.if-left-eq0.false c.if-cells-eq0.false c.mask_length.ensures c.place_plane.ensures c.count_stored-set.ensures,
)

pub returns : goal.returns
returns t c =
    levels_done c.requires c.if-left-eq0.false c.if-cells-eq0.false c.mask_length.ensures c.place_plane.ensures c.count_stored-set.ensures
    c.place_levels.ensures
