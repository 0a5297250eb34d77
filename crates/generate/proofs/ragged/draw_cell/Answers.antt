-- `ragged::draw_cell` meets its contract: levels, mask bytes and value are those of the cell (Drawing).
-- Assumes nothing.
use mathlib.Core.Path.{◌≡◌}
use mathlib.Core.List.{[]}
use native.Mathlib.Omega.{arith}
use Rattle.array.specs.Buffers.{over_at}
use Rattle.array.proofs.Laying.{laying_begins, laying_ends}
use Rattle.generate.specs.Cells.{lengthy}
use Rattle.generate.proofs.Drawing.{cell_marked, set-leaf, set-length, set_counted, null_leaf, null_counted}
use Rattle.generate.proofs.ragged.draw_cell.Goals as goal

pub draw_few-next-requires : goal.draw_few-next-requires
draw_few-next-requires c =
    let a = c.args in
    omega (arith, set-length a.load.depth a.first.state c.mark_levels-levels.ensures.draws c.if-levels-load.true c.draw-drawn.ensures c.length_of-bytes.ensures, c.requires.1)

pub returns-then-levels-load : goal.returns-then-levels-load
returns-then-levels-load c =
    let a = c.args in
    let levels = c.mark_levels-levels.ensures in
    let all = c.if-levels-load.true in
    record {
      draws = set_counted a.load.depth a.first.state levels.draws all c.draw-drawn.ensures c.length_of-bytes.ensures c.draw_few-next.ensures.draws;
      marks = cell_marked lengthy a.load.depth a.first.state levels.draws _ _ _ levels.marks;
      stores = rw (set-leaf a.load.depth a.first.state levels.draws all c.draw-drawn.ensures c.length_of-bytes.ensures) c.draw_few-next.ensures.stores;
    }

pub returns : goal.returns
returns c =
    let a = c.args in
    let levels = c.mark_levels-levels.ensures in
    let nothing : a.values.now ≡ over_at a.to [] a.values.now =
    laying_ends [] a.values.now a.to a.values.now 0 (laying_begins [] a.values.now a.to (omega (arith, c.requires.1))) in record {
      draws = null_counted a.load.depth a.first.state levels.draws c.if-levels-load.false;
      marks = cell_marked lengthy a.load.depth a.first.state levels.draws _ _ _ levels.marks;
      stores = rw (null_leaf a.load.depth a.first.state levels.draws c.if-levels-load.false) nothing;
    }
