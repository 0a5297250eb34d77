-- `mask_unpack::unpack` meets its contract: the cells of the whole bytes, then those of the byte after them (Words).
-- Assumes nothing.
use mathlib.Core.Path.{sym, ap, ◌∙◌}
use mathlib.Core.List.{List}
use Prim.Native.Nat.{ℕ, ◌+◌, ◌/◌, ◌%◌}
use native.Mathlib.Omega.{arith}
use lib.ListN.{take, drop, get_or}
use Rattle.array.specs.Bytes.{digits}
use Rattle.array.specs.Buffers.{over_at}
use Rattle.codec.specs.Mask.{bits_of}
use Rattle.mask_bits.proofs.Parts.{length_whole}
use Rattle.mask_unpack.proofs.Words.{over-parts, said_whole, said_some}
use Rattle.mask_unpack.proofs.unpack.Goals as goal

pub returns-then-rest-gt0 : goal.returns-then-rest-gt0
returns-then-rest-gt0 c =
    let a = c.args in
    let xs : List ℕ = bits_of (take (a.n / 8) (drop a.at a.s.now)) in
    let ys : List ℕ = take (a.n % 8) (digits 2 8 (get_or a.s.now (a.at + a.n / 8) 0)) in
    over-parts a.to xs ys a.planes.now (length_whole a.s.now a.at (a.n / 8) (omega (arith, c.requires.1))) (omega (arith, c.requires.0))
    c.unpack_bytes.ensures c.unpack_some.ensures
    ∙ ap (λ (m : List ℕ). over_at a.to m a.planes.now) (sym (said_some a.s.now a.at a.n c.requires.1 c.if-rest-gt0.true))

pub returns-else-rest-gt0 : goal.returns-else-rest-gt0
returns-else-rest-gt0 c =
    let a = c.args in
    c.unpack_bytes.ensures
    ∙ ap (λ (m : List ℕ). over_at a.to m a.planes.now) (sym (said_whole a.s.now a.at a.n c.requires.1 (omega (arith, c.if-rest-gt0.false))))
