-- `put::put_plane` meets its contract: one byte after another.
use Rattle.std.proofs.Common.{◌≡◌, ℕ, Bool, true, false, ltb, arith, refl, ap, ◌∙◌}
use mir.Val.{bool_byte}
use Rattle.array.specs.Lists.{pick}
use Rattle.rest_masks.proofs.Numbering.{number_begins, number_more, number-ends}
use Rattle.arrangement.proofs.put.put_plane.Goals as goal

as_byte : (b : Bool) → bool_byte b ≡ pick b 1 0
as_byte true = refl
as_byte false = refl

pub loop-j-init : goal.loop-j-init
loop-j-init c = number_begins _ _ _ _ (omega (arith, c.requires))

pub loop-j-preserved : goal.loop-j-preserved
loop-j-preserved c =
    let s = c.args.states.now in
    let state = s.digits.states c.loop-j.j c.loop-j-test.true in
    number_more c.loop-j.invariant c.loop-j-test.true (as_byte _ ∙ ap (λ (i : ℕ). pick (ltb c.args.level i) 1 0) state) refl

pub returns : goal.returns
returns c = number-ends c.loop-j.invariant c.loop-j-test.false
