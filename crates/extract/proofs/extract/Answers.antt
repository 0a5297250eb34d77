-- `extract` meets its contract: each refusal in its order (proofs/Outcomes), then the cut of an array that keeps the rules.
-- Assumes nothing.
use mathlib.Core.Path.{refl, sym}
use Rattle.std.specs.Prelude.{Ok}
use Rattle.std.proofs.lemmas.Result.{err_from_is_err_and}
use Rattle.array.specs.Meaning.{kind_of, lent}
use Rattle.array.specs.Shape.{volume}
use Rattle.array.proofs.Rules.{numbers_ok}
use Rattle.valid.proofs.ShapeLaws.{Counted, counted}
use Rattle.valid.proofs.CheckLaws.{check_valid}
use Rattle.extract.proofs.Outcomes.{not_kept, kept}
use Rattle.extract.proofs.extract.Goals.{In_ok-cells}
use Rattle.extract.proofs.extract.Goals as goal

shaped : (c : In_ok-cells) → Counted c.args.shape.now c.in_ok-cells.cells
shaped c = counted _ _ c.in_ok-cells.ensures

pub returns-in_err-check_array : goal.returns-in_err-check_array
returns-in_err-check_array c =
    let s = shaped (goal.at.returns-in_err-check_array c).In_ok-cells in
    let p = err_from_is_err_and c.from_residual-in_err-check_array.result c.from_residual-in_err-check_array.ensures.1 in
    rw (p.1, p.2) (not_kept _ _ _ _ _ (sym c.if-not-check_kind.ensures) s.passes (sym c.if-not-subset_fits.ensures) _ s.is c.in_err-check_array.ensures)

pub new-requires : goal.new-requires
new-requires c = ((shaped (goal.at.new-requires c).In_ok-cells).shaped, numbers_ok _ _ (sym c.if-not-subset_fits.ensures))

pub cut_valid-requires : goal.cut_valid-requires
cut_valid-requires c =
    let a = c.args in
    let s = shaped (goal.at.cut_valid-requires c).In_ok-cells in
    let keeps = check_valid (kind_of a.kind) (volume a.shape.now) (lent a.array) (Ok tt) (rw s.is at c.in_ok-check_array.ensures) refl in
    rw c.new.ensures.shape (record { whole = s.is; content = keeps.array.fits })

pub returns : goal.returns
returns c =
    let a = c.args in
    let s = shaped (goal.at.returns c).In_ok-cells in
    kept (kind_of a.kind) a.shape.now a.subset.now (lent a.array) _ (sym c.if-not-check_kind.ensures) s.passes (sym c.if-not-subset_fits.ensures)
    s.is c.in_ok-check_array.ensures (rw (c.new.ensures.shape, c.new.ensures.said) at c.cut_valid.ensures)
