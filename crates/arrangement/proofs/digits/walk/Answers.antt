-- `digits::walk` meets its contract, by the laws of Walking.
use Rattle.std.proofs.Common.{Bool, arith, refl, sym, ap}
use native.Mathlib.Nat.{pos_of_ne-zero}
use Rattle.array.specs.Answer.{gives, unless}
use Rattle.array.proofs.Answers.{pass}
use Rattle.arrange.specs.Arrangement.{arrangement}
use Rattle.arrangement.proofs.Walking.{walk_more, left_of, nothing_left, something_left}
use Rattle.arrangement.proofs.digits.walk.Goals as goal

pub loop-i-preserved : goal.loop-i-preserved
loop-i-preserved c =
    walk_more c.loop-i.invariant c.loop-i-test.true c.requires.few_cells (omega arith) (omega arith) (omega arith) (omega (arith, c.saturating_sub-bytes.ensures))

pub returns-then-left-ne0 : goal.returns-then-left-ne0
returns-then-left-ne0 c =
    let a = c.args in
    let past = something_left a.depth a.cells a.number (left_of c.loop-i.invariant c.loop-i-test.false) (pos_of_ne-zero c.if-left-ne0.true) in
    sym (ap (λ (b : Bool). unless b 19 (gives (arrangement a.depth a.cells a.number))) past)

pub returns : goal.returns
returns c =
    let a = c.args in
    let all = left_of c.loop-i.invariant c.loop-i-test.false in
    sym (pass 19 (nothing_left a.depth a.cells a.number all c.if-left-ne0.false) refl)
