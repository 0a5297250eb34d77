-- `set_with` meets its contract: refusal 4, and then what a table and a setting that keep their rules give.
-- Assumes nothing.
use mathlib.Core.Path.{sym, ◌∙◌}
use native.Mathlib.Omega.{arith}
use Rattle.array.specs.Meaning.{kind_of}
use Rattle.table.specs.Table.{Table}
use Rattle.table.specs.Meaning.{table_by}
use Rattle.table_setting.proofs.Outcomes.{broken, bad_setting, sound, answer_is}
use Rattle.table_set.proofs.Outcomes.{set_is}
use Rattle.table_set.proofs.set_with.Goals as goal

pub returns-then-not-are_strict : goal.returns-then-not-are_strict
returns-then-not-are_strict c =
    let a = c.args in
    let table : Table = table_by a.masks.now a.starts.now a.lengths.now a.store.now in
    set_is (kind_of a.shape.kind) a.shape.cells table a.setting
    (bad_setting a.shape table a.setting c.in-Some.ensures.sound (sym c.if-not-are_strict.ensures))

pub set_sound-requires : goal.set_sound-requires
set_sound-requires c =
    let a = c.args in
    let table : Table = table_by a.masks.now a.starts.now a.lengths.now a.store.now in
    sound a.shape table a.setting c.in-Some.ensures.sound (sym c.if-not-are_strict.ensures) (omega (arith, c.requires, c.check_cells.auto.order))

pub returns-in_default : goal.returns-in_default
returns-in_default c =
    let a = c.args in
    let table : Table = table_by a.masks.now a.starts.now a.lengths.now a.store.now in
    set_is (kind_of a.shape.kind) a.shape.cells table a.setting (broken a.shape table a.setting c.in_default.ensures)

pub returns : goal.returns
returns c =
    let a = c.args in
    let table : Table = table_by a.masks.now a.starts.now a.lengths.now a.store.now in
    c.set_sound.ensures
    ∙ set_is (kind_of a.shape.kind) a.shape.cells table a.setting (answer_is a.shape table a.setting c.in-Some.ensures.sound (sym c.if-not-are_strict.ensures))
