-- `fit::fit` meets its contract, by the laws of Judging.
-- Assumes nothing.
use mathlib.Core.Path.{◌≡◌, sym, ap, ◌∙◌}
use mathlib.Core.Bool.{Bool}
use native.Mathlib.Omega.{arith}
use Rattle.array.specs.Lists.{pick}
use Rattle.table_setting.proofs.Judging.{one_of_all, too_full, fits}
use Rattle.table_setting.proofs.fit.fit.Goals.{then-shown, else-shown}
use Rattle.table_setting.proofs.fit.fit.Goals as goal

pub overflow_sub-others : goal.overflow_sub-others
overflow_sub-others c =
    let a = c.args in
    one_of_all a.lengths.now a.room a.cell a.cell_masks.now a.length (sym c.if-not-store_ok.ensures) c.if-lengths-cell.false
    c.requires c.sum_of.ensures

pub returns-then-room-others : goal.returns-then-room-others
returns-then-room-others c =
    let a = c.args in
    let kept : c.if-shown.size ≡ pick c.all_set-shown.result a.length 0 =
    elim c.if-shown.branch [ then-shown w ↦ rw w.if-shown.true (omega (arith, w.size-is)) | else-shown w ↦ rw w.if-shown.false w.size-is ] in
    too_full a.lengths.now a.room a.cell a.cell_masks.now a.length (sym c.if-not-store_ok.ensures) c.if-lengths-cell.false c.requires c.sum_of.ensures
    (kept ∙ ap (λ (b : Bool). pick b a.length 0) c.all_set-shown.ensures) c.if-room-others.true

pub returns : goal.returns
returns c =
    let a = c.args in
    let kept : c.if-shown.size ≡ pick c.all_set-shown.result a.length 0 =
    elim c.if-shown.branch [ then-shown w ↦ rw w.if-shown.true (omega (arith, w.size-is)) | else-shown w ↦ rw w.if-shown.false w.size-is ] in
    fits a.lengths.now a.room a.cell a.cell_masks.now a.length (sym c.if-not-store_ok.ensures) c.if-lengths-cell.false c.requires c.sum_of.ensures
    (kept ∙ ap (λ (b : Bool). pick b a.length 0) c.all_set-shown.ensures) c.if-room-others.false
