-- `shape_cells` meets its contract: the sides from k on are counted, and each is limited before it is multiplied (proofs/ShapeLaws).
-- Assumes nothing.
use native.Mathlib.Omega.{arith}
use Rattle.valid.proofs.ShapeLaws.{sides_end, no_sides, many_sides, no_side, long_side, many_cells}
use Rattle.valid.proofs.shape.shape_cells.Goals as goal

pub returns-then-shape-lt1 : goal.returns-then-shape-lt1
returns-then-shape-lt1 c = no_sides c.args.shape.now c.if-shape-lt1.true

pub returns-then-shape-gt-MOST_SIDES : goal.returns-then-shape-gt-MOST_SIDES
returns-then-shape-gt-MOST_SIDES c = many_sides c.args.shape.now c.if-shape-gt-MOST_SIDES.true

pub returns-then-side-lt1 : goal.returns-then-side-lt1
returns-then-side-lt1 c = no_side c.loop-k.invariant c.loop-k-test.true c.if-side-lt1.true

pub returns-then-side-gt-MOST_CELLS : goal.returns-then-side-gt-MOST_CELLS
returns-then-side-gt-MOST_CELLS c = long_side c.loop-k.invariant c.loop-k-test.true (omega arith)

pub returns-then-side-cells-gt-MOST_CELLS : goal.returns-then-side-cells-gt-MOST_CELLS
returns-then-side-cells-gt-MOST_CELLS c = many_cells c.loop-k.invariant c.loop-k-test.true c.if-side-cells-gt-MOST_CELLS.true

pub returns : goal.returns
returns c = sides_end c.loop-k.invariant (omega arith) c.if-shape-lt1.false c.if-shape-gt-MOST_SIDES.false
