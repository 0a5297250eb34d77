-- `encode::encode` meets its contract: each way it ends has a law.
-- Assumes nothing.
use mathlib.Core.Path.{refl, sym, ◌∙◌}
use Rattle.std.specs.Prelude.{Ok, Err}
use Rattle.std.proofs.lemmas.Result.{err_from_is_err_and}
use Rattle.array.specs.Meaning.{kind_of, lent}
use Rattle.encode.proofs.Encodes.{encode_content, encode_encodable, encode_field, encode_rest}
use Rattle.encode.proofs.encode.Goals as goal

pub returns-in_err-check_array : goal.returns-in_err-check_array
returns-in_err-check_array c =
    let p = err_from_is_err_and c.from_residual-in_err-check_array.result c.from_residual-in_err-check_array.ensures.1 in
    rw (p.1, p.2)
    (encode_content _ _ _ _ (sym c.if-not-check_kind.ensures) c.in_ok-cells.ensures (Err c.in_err-check_array.field-0.0) c.in_err-check_array.ensures refl)

pub is_carried-requires : goal.is_carried-requires
is_carried-requires c =
    encode_encodable _ _ _ c.args.out.now (sym c.if-not-check_kind.ensures) c.in_ok-cells.ensures (Ok tt) c.in_ok-check_array.ensures refl

pub returns-then-not-is_carried : goal.returns-then-not-is_carried
returns-then-not-is_carried c =
    encode_field _ _ _ _ (sym c.if-not-check_kind.ensures) c.in_ok-cells.ensures (Ok tt) c.in_ok-check_array.ensures refl c.if-not-is_carried.ensures

pub encode_valid-requires : goal.encode_valid-requires
encode_valid-requires c =
    encode_encodable _ _ _ c.args.out.now (sym c.if-not-check_kind.ensures) c.in_ok-cells.ensures (Ok tt) c.in_ok-check_array.ensures refl

pub returns : goal.returns
returns c =
    let a = c.args in
    c.encode_valid.ensures
    ∙ encode_rest (kind_of a.kind) a.shape.now (lent a.array) a.out.now (sym c.if-not-check_kind.ensures) c.in_ok-cells.ensures (Ok tt) c.in_ok-check_array.ensures refl c.if-not-is_carried.ensures
