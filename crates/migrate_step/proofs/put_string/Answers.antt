-- `put_string` meets its contract: the index length, the index and the data, one behind the other (proofs/Writing).
-- Assumes nothing.
use Prim.Native.Nat.{◌+◌, ◌*◌, ◌≤◌}
use native.Mathlib.Omega.{arith}
use lib.ListN.{length}
use Rattle.array.specs.Limits.{most_cells, most_bytes}
use Rattle.migrate_step.proofs.Writing.{no_place, placed}
use Rattle.migrate_step.proofs.put_string.Goals.{After-put_u64}
use Rattle.migrate_step.proofs.put_string.Goals as goal

pub overflow_add-index : goal.overflow_add-index
unfolding most_cells
overflow_add-index c = omega (arith, c.requires.counted.cells.few, c.le4_at-cells.ensures)

pub overflow_mul-index : goal.overflow_mul-index
unfolding most_cells
overflow_mul-index c = omega (arith, c.requires.counted.cells.few, c.le4_at-cells.ensures)

pub overflow_add-need : goal.overflow_add-need
unfolding most_cells most_bytes
overflow_add-need c = omega (arith, c.requires.counted.cells.few, c.requires.counted.cells.small, c.le4_at-cells.ensures)

pub overflow_add-need-2 : goal.overflow_add-need-2
unfolding most_cells most_bytes
overflow_add-need-2 c = omega (arith, c.requires.counted.cells.few, c.requires.counted.cells.small, c.le4_at-cells.ensures)

pub returns-then-area-at : goal.returns-then-area-at
returns-then-area-at c = no_place c.requires.counted c.args.at c.args.area.now (rw c.le4_at-cells.ensures at c.if-area-at.true) c.requires.within

room : (c : After-put_u64) → c.args.at + (8 + 8 * (c.le4_at-cells.result + 1) + c.args.sum) ≤ length c.args.area.now
room c = omega (arith, c.requires.within)

pub returns : goal.returns
returns c =
    let e = c.le4_at-cells.ensures in
    rw e (placed c.requires.counted c.args.at c.args.area.now (rw e at (room (goal.at.returns c).After-put_u64)) (rw e at c.put_u64.ensures) (rw e at c.put_index.ensures) (rw e at c.put_data.ensures))
