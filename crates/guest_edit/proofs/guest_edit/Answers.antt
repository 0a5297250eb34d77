-- `guest_edit` meets its contract: refusals 1, 2, 17 and the plane's 4, each in its turn; then a hidden cell is refused, and any other is set.
-- Assumes nothing.
use mathlib.Core.Path.{sym, ◌∙◌}
use borrow.Author.Tests.{lt-ltb, le-ltb}
use native.Mathlib.Omega.{arith}
use Rattle.std.proofs.lemmas.Result.{err_from_is_err_and}
use Rattle.array.specs.Meaning.{kind_of}
use Rattle.table.specs.Table.{Table}
use Rattle.table.specs.Meaning.{table_by}
use Rattle.table_kind.proofs.Forms.{shape_taken}
use Rattle.guest_edit.proofs.Hiding.{unshaped, without_masks_lem, no_plane, of_count, edit_hidden, edit_shown}
use Rattle.guest_edit.proofs.guest_edit.Goals as goal

pub returns-in_err-new : goal.returns-in_err-new
returns-in_err-new c =
    let p = err_from_is_err_and c.from_residual.result c.from_residual.ensures.1 in
    let a = c.args in
    let table : Table = table_by a.masks.now a.starts.now a.lengths.now a.store.now in
    rw (p.1, p.2) (unshaped (kind_of a.kind) a.cells a.rights.now table a.setting c.in_err-new.ensures)

pub returns-then-kind-eq0 : goal.returns-then-kind-eq0
returns-then-kind-eq0 c =
    let a = c.args in
    let table : Table = table_by a.masks.now a.starts.now a.lengths.now a.store.now in
    without_masks_lem (kind_of a.kind) a.cells a.rights.now table a.setting (shape_taken c.in_ok-new.field-0 c.in_ok-new.ensures)
    (le-ltb 0 a.kind.depth (omega (arith, c.if-kind-eq0.true)))

pub returns-then-not-are_strict : goal.returns-then-not-are_strict
returns-then-not-are_strict c =
    let a = c.args in
    let table : Table = table_by a.masks.now a.starts.now a.lengths.now a.store.now in
    no_plane (kind_of a.kind) a.cells a.rights.now table a.setting (shape_taken c.in_ok-new.field-0 c.in_ok-new.ensures)
    (lt-ltb 0 a.kind.depth (omega (arith, c.if-kind-eq0.false))) (sym c.if-not-are_strict.ensures)

pub returns-then-hides : goal.returns-then-hides
returns-then-hides c =
    let a = c.args in
    let table : Table = table_by a.masks.now a.starts.now a.lengths.now a.store.now in
    let shaped = shape_taken c.in_ok-new.field-0 c.in_ok-new.ensures in
    let some = lt-ltb 0 a.kind.depth (omega (arith, c.if-kind-eq0.false)) in
    let plane = sym c.if-not-are_strict.ensures in
    edit_hidden (kind_of a.kind) a.cells a.rights.now table a.setting shaped some plane
    (of_count (kind_of a.kind) a.cells a.rights.now table a.setting shaped some plane c.if-hides.ensures)
    c.refuse_hidden.ensures

pub returns : goal.returns
returns c =
    let a = c.args in
    let table : Table = table_by a.masks.now a.starts.now a.lengths.now a.store.now in
    let shaped = shape_taken c.in_ok-new.field-0 c.in_ok-new.ensures in
    let some = lt-ltb 0 a.kind.depth (omega (arith, c.if-kind-eq0.false)) in
    let plane = sym c.if-not-are_strict.ensures in
    c.set_cell.ensures
    ∙ edit_shown (kind_of a.kind) a.cells a.rights.now table a.setting shaped some plane
    (of_count (kind_of a.kind) a.cells a.rights.now table a.setting shaped some plane c.if-hides.ensures)
