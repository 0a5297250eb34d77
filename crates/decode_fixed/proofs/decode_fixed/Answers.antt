-- `decode_fixed` meets its contract: the reader's answer by the walk (FixedLaws), and what the copying rests on.
-- Assumes nothing.
use mathlib.Core.Path.{sym}
use native.Mathlib.Omega.{arith}
use Rattle.std.proofs.lemmas.Result.{err_from_is_err_and}
use Rattle.array.specs.Meaning.{order_of, masks_of}
use Rattle.codec.specs.Mask.{mask_form}
use Rattle.decode_fixed.specs.declared.Found.{Found}
use Rattle.decode_fixed.specs.Reads.{FixedFound}
use Rattle.decode_fixed.proofs.FixedLaws.{none_within, fixed_refused, fixed_none}
use Rattle.decode_fixed.proofs.decode_fixed.Goals as goal

pub returns-in_err-at : goal.returns-in_err-at
returns-in_err-at c =
    let a = c.args in
    let p = err_from_is_err_and c.from_residual.result c.from_residual.ensures.1 in
    λ offsets. rw (p.1, p.2, fixed_refused (mask_form (masks_of a.kind.masks)) a.size (order_of a.order) a.s.now c.requires.0 _ (sym c.in_err-at.ensures))

pub write_fixed-requires-clause-within : goal.write_fixed-requires-clause-within
write_fixed-requires-clause-within c =
    let a = c.args in
    let found : Found = record { at = c.in_ok-at.at; cells = c.in_ok-at.cells } in
    let found_is : FixedFound (masks_of a.kind.masks) a.size a.kind.depth a.s.now a.n found =
    record { limits = c.requires.0; small = c.requires.1; walk = sym c.in_ok-at.ensures } in
    none_within found_is (omega (arith, c.if-cells-eq0.true))

pub returns-then-cells-eq0 : goal.returns-then-cells-eq0
returns-then-cells-eq0 c =
    let a = c.args in
    let found : Found = record { at = c.in_ok-at.at; cells = c.in_ok-at.cells } in
    let found_is : FixedFound (masks_of a.kind.masks) a.size a.kind.depth a.s.now a.n found =
    record { limits = c.requires.0; small = c.requires.1; walk = sym c.in_ok-at.ensures } in
    λ offsets. rw (fixed_none (order_of a.order) found_is (omega (arith, c.if-cells-eq0.true))) (c.write_fixed.ensures offsets)
