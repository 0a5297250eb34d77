-- `table_place::room_for` meets its contract: as it is where enough remains, else by the law of packing.
-- Assumes nothing.
use native.Mathlib.Omega.{arith}
use Rattle.table_place.proofs.Places.{found, total_small, roomy_left, roomy_packed}
use Rattle.table_place.proofs.room_for.Goals as goal

pub returns-then-size-end : goal.returns-then-size-end
returns-then-size-end c = roomy_left c.requires.0 c.top_of-top.ensures.0 c.if-size-end.true

pub move_cells-requires : goal.move_cells-requires
move_cells-requires c =
    let pre = c.requires in
    (pre.0.lengths_fit, found pre.0 c.lie-count.ensures.lies)

pub sum_of-requires : goal.sum_of-requires
sum_of-requires c =
    let pre = c.requires in
    omega (arith, total_small pre.0, pre.3)

pub returns : goal.returns
returns c =
    let pre = c.requires in
    roomy_packed pre.0 c.top_of-top.ensures.0 c.if-size-end.false c.move_cells.ensures c.sum_of.ensures
