-- `preview_with` meets its contract: refusal 4, and then what a table and a setting that keep their rules give.
-- Assumes nothing.
use mathlib.Core.Path.{sym, ap, ◌∙◌, subst}
use Prim.Native.Nat.{ℕ}
use native.Mathlib.Omega.{arith}
use lib.ListN.{take}
use Rattle.array.specs.Answer.{map_answer}
use Rattle.array.specs.Meaning.{kind_of}
use Rattle.table.specs.Table.{Table}
use Rattle.table.specs.Calls.{looked_at}
use Rattle.table.specs.Meaning.{lent_table}
use Rattle.table.specs.Walk.{InOrder}
use Rattle.table.proofs.Walk.{in_order}
use Rattle.table_setting.specs.Settle.{setting_answer}
use Rattle.table_setting.proofs.Outcomes.{broken, bad_setting, sound, answer_is}
use Rattle.table_preview.proofs.Outcomes.{preview_is}
use Rattle.table_preview.proofs.preview_with.Goals as goal

pub returns-then-not-are_strict : goal.returns-then-not-are_strict
returns-then-not-are_strict c =
    let a = c.args in
    preview_is (kind_of a.shape.kind) a.shape.cells (lent_table a.table) a.setting
    (bad_setting a.shape (lent_table a.table) a.setting c.in-Some.ensures.sound (sym c.if-not-are_strict.ensures))

pub preview_sound-requires : goal.preview_sound-requires
preview_sound-requires c =
    let a = c.args in
    let table : Table = lent_table a.table in
    let lain = c.in-Some.ensures in (
      sound a.shape table a.setting lain.sound (sym c.if-not-are_strict.ensures) (omega (arith, lain.sound.starts_fit)),
      subst (λ (n : ℕ). InOrder n table (take c.in-Some.count c.check_cells.new.order)) (sym lain.sound.starts_fit) (in_order lain.sound lain.order),
    )

pub returns-in_default : goal.returns-in_default
returns-in_default c =
    let a = c.args in
    preview_is (kind_of a.shape.kind) a.shape.cells (lent_table a.table) a.setting (broken a.shape (lent_table a.table) a.setting c.in_default.ensures)

pub returns : goal.returns
returns c =
    let a = c.args in
    let table : Table = lent_table a.table in
    let ok = c.in-Some.ensures.sound in
    c.preview_sound.ensures
    ∙ ap (λ (n : ℕ). map_answer (looked_at n) (setting_answer a.setting.cell a.setting.masks.now a.setting.value.now table)) ok.starts_fit
    ∙ preview_is (kind_of a.shape.kind) a.shape.cells table a.setting (answer_is a.shape table a.setting ok (sym c.if-not-are_strict.ensures))
