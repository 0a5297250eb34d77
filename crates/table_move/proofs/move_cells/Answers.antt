-- `table_move::move_cells` meets its contract, by the laws of the walk.
-- Assumes nothing.
use mathlib.Core.Path.{◌∙◌}
use native.Mathlib.Omega.{arith}
use Rattle.table.proofs.Walk.{moving_stays, moving_moves, moving_is, moving_full, moving_ends, moving_leaves}
use Rattle.table_move.proofs.Within.{next, cell_below, cell_room}
use Rattle.table_move.proofs.move_cells.Goals.{then-start-to, else-start-to}
use Rattle.table_move.proofs.move_cells.Goals as goal

pub returns-then-moved-most : goal.returns-then-moved-most
returns-then-moved-most c =
    let m = c.loop-number.invariant in
    moving_leaves m (moving_full c.requires.1 m (omega arith))

pub bounds-starts-j : goal.bounds-starts-j
bounds-starts-j c =
    let m = c.loop-number.invariant in
    omega (arith, cell_below c.requires.1 m c.loop-number-test.true, m.cells)

pub bounds-lengths-j : goal.bounds-lengths-j
bounds-lengths-j c = omega (arith, cell_below c.requires.1 c.loop-number.invariant c.loop-number-test.true, c.requires.0)

pub move_down-requires : goal.move_down-requires
move_down-requires c = cell_room c.requires.1 c.loop-number.invariant c.loop-number-test.true

pub bounds-starts-j-then-start-to : goal.bounds-starts-j-then-start-to
bounds-starts-j-then-start-to c =
    let m = c.loop-number.invariant in
    omega (arith, cell_below c.requires.1 m c.loop-number-test.true, m.cells)

pub overflow_add-to : goal.overflow_add-to
overflow_add-to c =
    let m = c.loop-number.invariant in
    omega (arith, cell_room c.requires.1 m c.loop-number-test.true, m.size)

pub loop-number-preserved : goal.loop-number-preserved
loop-number-preserved c =
    let o = c.requires.1 in
    let m = c.loop-number.invariant in
    let cell = next o m c.loop-number-test.true in
    elim c.if-start-to.branch [
      | then-start-to w ↦ moving_is (moving_moves o m cell w.if-start-to.true (omega (arith, m.few))) w.starts-is
          (w.store-is ∙ w.move_down.ensures) w.moved-is
      | else-start-to w ↦ moving_is (moving_stays o m cell w.if-start-to.false) w.starts-is w.store-is w.moved-is
    ]

pub returns : goal.returns
returns c =
    let m = c.loop-number.invariant in
    moving_leaves m (moving_ends c.requires.1 m c.loop-number-test.false)
