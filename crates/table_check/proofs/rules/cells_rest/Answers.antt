-- `table_check::rules::cells_rest` meets its contract, by the laws of Resting.
-- Assumes nothing.
use Rattle.table_check.proofs.Resting.{no_levels, planes_rise, nulls_left}
use Rattle.table_check.proofs.rules.cells_rest.Goals as goal

pub returns-then-depth-eq0 : goal.returns-then-depth-eq0
returns-then-depth-eq0 c =
    let a = c.args in no_levels a.depth a.n a.table.masks.now a.table.lengths.now c.if-depth-eq0.true

pub returns-then-masks_fall : goal.returns-then-masks_fall
returns-then-masks_fall c =
    nulls_left c.args.depth c.args.n c.args.table.masks.now c.args.table.lengths.now c.if-depth-eq0.false c.requires.0 c.requires.1 c.requires.3
    c.masks_fall.ensures c.if-masks_fall.true c.nulls_empty.ensures

pub returns-else-masks_fall : goal.returns-else-masks_fall
returns-else-masks_fall c =
    planes_rise c.args.depth c.args.n c.args.table.masks.now c.args.table.lengths.now c.if-depth-eq0.false c.requires.0 c.requires.1 c.requires.3
    c.masks_fall.ensures c.if-masks_fall.false
