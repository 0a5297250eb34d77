-- `guest_read` meets its contract: each refusal in its order (proofs/Outcomes), then what is seen of an array that keeps the rules.
-- Assumes nothing.
use mathlib.Core.Path.{sym, ◌∙◌}
use native.Mathlib.Omega.{arith}
use borrow.Author.Tests.{lt-ltb, le-ltb}
use Rattle.std.proofs.lemmas.Result.{err_from_is_err_and}
use Rattle.array.specs.Limits.{most_cells}
use Rattle.array.specs.Meaning.{kind_of, lent}
use Rattle.valid.proofs.ShapeLaws.{counted, not_counted}
use Rattle.valid.proofs.CheckLaws.{check_valid}
use Rattle.guest_read.proofs.Outcomes.{no_kind, no_shape, without_masks_lem, no_plane, not_kept, kept}
use Rattle.guest_read.proofs.guest_read.Goals as goal

pub returns-then-not-check_kind : goal.returns-then-not-check_kind
returns-then-not-check_kind c = no_kind (kind_of c.args.kind) c.args.shape.now c.args.rights.now (lent c.args.array) _ (sym c.if-not-check_kind.ensures)

pub returns-in_err-cells : goal.returns-in_err-cells
returns-in_err-cells c =
    let p = err_from_is_err_and c.from_residual.result c.from_residual.ensures.1 in
    let none = not_counted c.args.shape.now _ c.in_err-cells.ensures in
    rw (p.1, p.2, none.1) (no_shape (kind_of c.args.kind) c.args.shape.now c.args.rights.now (lent c.args.array) _ (sym c.if-not-check_kind.ensures) none.0)

pub returns-then-kind-eq0 : goal.returns-then-kind-eq0
returns-then-kind-eq0 c =
    without_masks_lem (kind_of c.args.kind) c.args.shape.now c.args.rights.now (lent c.args.array) _ (sym c.if-not-check_kind.ensures)
    (counted _ _ c.in_ok-cells.ensures) (le-ltb 0 c.args.kind.depth (omega (arith, c.if-kind-eq0.true)))

pub returns-then-not-are_strict : goal.returns-then-not-are_strict
returns-then-not-are_strict c =
    no_plane (kind_of c.args.kind) c.args.shape.now c.args.rights.now (lent c.args.array) _ (sym c.if-not-check_kind.ensures)
    (counted _ _ c.in_ok-cells.ensures) (lt-ltb 0 c.args.kind.depth (omega (arith, c.if-kind-eq0.false))) (sym c.if-not-are_strict.ensures)

pub check_array-requires : goal.check_array-requires
unfolding most_cells
check_array-requires c = (counted _ _ c.in_ok-cells.ensures).few

pub returns-in_err-check_array : goal.returns-in_err-check_array
returns-in_err-check_array c =
    let p = err_from_is_err_and c.from_residual-in_err-check_array.result c.from_residual-in_err-check_array.ensures.1 in
    rw (p.1, p.2)
    (not_kept (kind_of c.args.kind) c.args.shape.now c.args.rights.now (lent c.args.array) _ (sym c.if-not-check_kind.ensures)
    (counted _ _ c.in_ok-cells.ensures) (lt-ltb 0 c.args.kind.depth (omega (arith, c.if-kind-eq0.false))) (sym c.if-not-are_strict.ensures)
    c.check_array.ensures _ c.in_err-check_array.was)

pub read_valid-requires : goal.read_valid-requires
read_valid-requires c =
    (check_valid (kind_of c.args.kind) c.in_ok-cells.cells (lent c.args.array) c.check_array.result c.check_array.ensures c.in_ok-check_array.was).array.fits.values_fit

pub returns : goal.returns
returns c =
    c.read_valid.ensures
    ∙ kept (kind_of c.args.kind) c.args.shape.now c.args.rights.now (lent c.args.array) _ (sym c.if-not-check_kind.ensures)
    (counted _ _ c.in_ok-cells.ensures) (lt-ltb 0 c.args.kind.depth (omega (arith, c.if-kind-eq0.false))) (sym c.if-not-are_strict.ensures)
    c.check_array.ensures c.in_ok-check_array.was
