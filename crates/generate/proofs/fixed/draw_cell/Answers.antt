-- `fixed::draw_cell` meets its contract: levels, mask bytes and value are those of the cell (Drawing).
-- Assumes nothing.
use mathlib.Core.Path.{sym, ◌∙◌}
use Rattle.load.specs.Load.{draw_value}
use Rattle.generate.specs.Cells.{sized}
use Rattle.generate.proofs.Drawing.{cell_of_lem, cell_marked}
use Rattle.generate.proofs.fixed.draw_cell.Goals as goal

pub returns-then-levels-load : goal.returns-then-levels-load
unfolding draw_value
returns-then-levels-load c =
    let a = c.args in
    let levels = c.mark_levels-levels.ensures in
    let value = (cell_of_lem (sized a.size) a.load.depth a.first.state levels.draws).if_set_lem c.if-levels-load.true in
    record {
      draws = c.draw_bytes.ensures.draws ∙ sym value.1;
      marks = cell_marked (sized a.size) a.load.depth a.first.state levels.draws _ _ _ levels.marks;
      stores = rw value.0 c.draw_bytes.ensures.stores;
    }

pub returns : goal.returns
returns c =
    let a = c.args in
    let levels = c.mark_levels-levels.ensures in
    let value = (cell_of_lem (sized a.size) a.load.depth a.first.state levels.draws).if_null c.if-levels-load.false in
    record {
      draws = sym value.1;
      marks = cell_marked (sized a.size) a.load.depth a.first.state levels.draws _ _ _ levels.marks;
      stores = rw value.0 c.fill_bytes.ensures;
    }
