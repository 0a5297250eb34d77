-- `generate` meets its contract: the stages in their order (Stages).
-- Assumes nothing.
use mathlib.Core.Path.{◌≡◌, refl, sym, ap, ◌∙◌, subst}
use mathlib.Core.Bool.{true}
use mathlib.Core.List.{List}
use Prim.Native.Nat.{ℕ}
use Rattle.std.proofs.lemmas.Result.{err_from_is_err_and}
use Rattle.array.specs.Limits.{most_cells}
use Rattle.array.specs.Kind.{Kind, Form, kind_test}
use Rattle.array.specs.Meaning.{kind_of, form_of}
use Rattle.array.specs.Outcome.{content_array}
use Rattle.array.proofs.Rules.{kind_ok}
use Rattle.valid.proofs.ShapeLaws.{Counted, counted}
use Rattle.load.specs.Law.{SameSize}
use Rattle.generate.specs.Cells.{sized, lengthy}
use Rattle.generate.specs.Room.{Limited}
use Rattle.generate.proofs.Stages.{by_kind, by_shape, by_cells}
use Rattle.generate.proofs.generate.Goals as goal

pub returns-then-not-check_kind : goal.returns-then-not-check_kind
returns-then-not-check_kind c = by_kind _ _ _ _ (sym c.if-not-check_kind.ensures)

pub returns-in_err-shape_cells : goal.returns-in_err-shape_cells
returns-in_err-shape_cells c =
    let p = err_from_is_err_and c.from_residual.result c.from_residual.ensures.1 in
    rw (p.1, p.2) (by_shape _ _ _ _ (sym c.if-not-check_kind.ensures) c.in_err-shape_cells.ensures)

-- a kind and a shape that passed have the limits of a load
load_limited : (k : Kind) (shape : List ℕ) {n : ℕ} → kind_test k ≡ true → Counted shape n → Limited k.depth n
unfolding most_cells
load_limited k shape e s = record { shallow = (kind_ok k e).shallow; few = s.few }

pub invariant_of-load : goal.invariant_of-load
invariant_of-load c = record { limited = load_limited (kind_of c.args.kind) _ (sym c.if-not-check_kind.ensures) (counted _ _ c.in_ok-shape_cells.ensures) }

pub invariant_of-load-in-Ragged : goal.invariant_of-load-in-Ragged
invariant_of-load-in-Ragged c = record { limited = load_limited (kind_of c.args.kind) _ (sym c.if-not-check_kind.ensures) (counted _ _ c.in_ok-shape_cells.ensures) }

pub returns-in-Fixed : goal.returns-in-Fixed
returns-in-Fixed c =
    let form = sized c.in-Fixed.size in
    let same : SameSize (form_of c.args.kind.values) form = subst (λ (f : Form). SameSize f form) (sym (ap form_of c.in-Fixed.is)) refl in
    let a = c.args in
    let lent = content_array a.masks.now a.values.now a.offsets.now in
    c.make_fixed.ensures a.offsets.now
    ∙ sym (by_cells (kind_of a.kind) a.shape.now a.start lent (sym c.if-not-check_kind.ensures) (counted _ _ c.in_ok-shape_cells.ensures) form same)

pub returns-in-Ragged : goal.returns-in-Ragged
returns-in-Ragged c =
    let same : SameSize (form_of c.args.kind.values) lengthy = subst (λ (f : Form). SameSize f lengthy) (sym (ap form_of c.in-Ragged.is)) tt in
    let a = c.args in
    let lent = content_array a.masks.now a.values.now a.offsets.now in
    c.make_ragged.ensures
    ∙ sym (by_cells (kind_of a.kind) a.shape.now a.start lent (sym c.if-not-check_kind.ensures) (counted _ _ c.in_ok-shape_cells.ensures) lengthy same)
