-- `mask_bits::packed::unused_clear` meets its contract: only the last byte can have unused bits (Said).
-- Assumes nothing.
use mathlib.Core.Path.{◌≡◌, ◌∙◌}
use Prim.Native.Nat.{◌+◌, ◌/◌, ◌%◌}
use native.Mathlib.Omega.{arith}
use borrow.Author.Tests.{eq-eqb}
use Rattle.mask_bits.proofs.Said.{no_unused, unused_last}
use Rattle.mask_bits.proofs.packed.unused_clear.Goals as goal

pub returns-then-used-eq0 : goal.returns-then-used-eq0
returns-then-used-eq0 c =
    let a = c.args in
    let none : a.n % 8 ≡ 0 = omega (arith, c.if-used-eq0.true) in
    eq-eqb (a.n % 8) 0 none ∙ no_unused a.s.now a.at a.n c.requires none

pub returns-else-used-eq0 : goal.returns-else-used-eq0
returns-else-used-eq0 c =
    let a = c.args in
    unused_last a.s.now a.at a.n c.requires (λ e. omega (arith, e, c.if-used-eq0.false)) (omega (arith, (c.type_inv.s (a.at + a.n / 8)).fits))
