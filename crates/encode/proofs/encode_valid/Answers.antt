-- `encode::encode_valid` meets its contract: the written length is known before the first store.
-- Assumes nothing.
use mathlib.Core.Path.{sym, ap, ◌∙◌}
use mathlib.Core.List.{List}
use Prim.Native.Nat.{ℕ}
use native.Mathlib.Omega.{arith}
use Rattle.array.specs.Buffers.{over}
use Rattle.encode.proofs.Encodes.{stored_is, form_need, list_short, list_written}
use Rattle.encode.proofs.encode_valid.Goals as goal

pub returns-then-out-need : goal.returns-then-out-need
returns-then-out-need c =
    list_short _ c.args.out.now (omega (arith, c.if-out-need.true, c.stored_length-need.ensures, form_need c.args.kind c.requires))

pub returns : goal.returns
returns c =
    let put = c.write_stored.ensures ∙ ap (λ (s : List ℕ). over s c.args.out.now) (sym (stored_is c.args.kind c.requires)) in
    list_written _ c.args.out.now c.if-out-need.false (c.stored_length-need.ensures ∙ sym (form_need c.args.kind c.requires)) put
