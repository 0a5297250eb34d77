-- `pack_with` meets its contract: refusals 4 and 5, each in its turn, and then the cells are moved.
-- Assumes nothing.
use mathlib.Core.Path.{sym, ◌∙◌}
use Rattle.table.specs.Meaning.{table_by}
use Rattle.table_pack.proofs.Outcomes.{broken, too_long, packs_moved, may_walk}
use Rattle.table_pack.proofs.pack_with.Goals as goal

pub returns-then-not-store_ok : goal.returns-then-not-store_ok
returns-then-not-store_ok c =
    let a = c.args in
    too_long a.shape a.most c.requires.0 (table_by a.masks.now a.starts.now a.lengths.now a.store.now) c.in-Some.ensures.sound (sym c.if-not-store_ok.ensures)

pub move_cells-requires : goal.move_cells-requires
move_cells-requires c =
    let l = c.in-Some.ensures in
    (l.sound.lengths_fit ∙ sym l.sound.starts_fit, may_walk l.sound l.order)

pub returns-in_default : goal.returns-in_default
returns-in_default c =
    let a = c.args in
    broken a.shape a.most c.requires.0 (table_by a.masks.now a.starts.now a.lengths.now a.store.now) c.in_default.ensures

pub returns : goal.returns
returns c =
    let a = c.args in
    packs_moved a.shape a.most c.requires.0 (table_by a.masks.now a.starts.now a.lengths.now a.store.now) c.in-Some.ensures.sound (sym c.if-not-store_ok.ensures)
    c.move_cells.ensures
