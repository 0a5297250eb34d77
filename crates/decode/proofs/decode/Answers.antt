-- `decode` meets its contract: the stages in the order of docs/SPEC.md, S7.2 (Stages).
-- Assumes nothing.
use mathlib.Core.Path.{sym, ap, ◌∙◌, subst}
use Rattle.std.proofs.lemmas.Result.{err_from_is_err_and}
use Rattle.array.specs.Limits.{most_cells}
use Rattle.array.specs.Kind.{FormOk}
use Rattle.array.specs.Meaning.{kind_of, form_of}
use Rattle.array.proofs.Rules.{kind_ok}
use Rattle.valid.proofs.ShapeLaws.{counted}
use Rattle.decode.proofs.Stages.{by_kind, by_shape, by_reading}
use Rattle.decode.proofs.decode.Goals as goal

pub returns-then-not-check_kind : goal.returns-then-not-check_kind
returns-then-not-check_kind c = by_kind _ _ _ _ _ _ (sym c.if-not-check_kind.ensures)

pub returns-in_err-n : goal.returns-in_err-n
returns-in_err-n c =
    let p = err_from_is_err_and c.from_residual.result c.from_residual.ensures.1 in
    rw (p.1, p.2) (by_shape _ _ _ _ _ _ (sym c.if-not-check_kind.ensures) c.in_err-n.ensures)

pub decode_fixed-requires : goal.decode_fixed-requires
unfolding most_cells
decode_fixed-requires c =
    let sound = kind_ok (kind_of c.args.kind) (sym c.if-not-check_kind.ensures) in
    let n = counted _ _ c.in_ok-n.ensures in
    (record { some = n.some; few = n.few; shallow = sound.shallow }, (subst FormOk (ap form_of c.in-Fixed.is) sound.sound).1)

pub decode_ragged-requires : goal.decode_ragged-requires
unfolding most_cells
decode_ragged-requires c =
    let sound = kind_ok (kind_of c.args.kind) (sym c.if-not-check_kind.ensures) in
    let n = counted _ _ c.in_ok-n.ensures in
    record { some = n.some; few = n.few; shallow = sound.shallow }

pub returns-in-Fixed : goal.returns-in-Fixed
returns-in-Fixed c =
    let a = c.args in
    c.decode_fixed.ensures a.offsets.now
    ∙ sym
    (by_reading (kind_of a.kind) a.shape.now a.bytes.now a.masks.now a.values.now a.offsets.now (sym c.if-not-check_kind.ensures) (counted _ _ c.in_ok-n.ensures)
    (ap form_of c.in-Fixed.is))

pub returns-in-Ragged : goal.returns-in-Ragged
returns-in-Ragged c =
    let a = c.args in
    c.decode_ragged.ensures
    ∙ sym
    (by_reading (kind_of a.kind) a.shape.now a.bytes.now a.masks.now a.values.now a.offsets.now (sym c.if-not-check_kind.ensures) (counted _ _ c.in_ok-n.ensures)
    (ap form_of c.in-Ragged.is))
