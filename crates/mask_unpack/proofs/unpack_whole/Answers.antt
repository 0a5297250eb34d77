-- `mask_unpack::unpack_whole` meets its contract. The invariant: the cells of the first i bytes lie there, and those of the others are left.
-- Assumes nothing.
use mathlib.Core.Path.{◌≡◌, ap, ◌∙◌}
use mathlib.Core.List.{List, [], ◌++◌}
use Prim.Native.Nat.{ℕ, ◌+◌, ◌*◌}
use native.Mathlib.Omega.{arith}
use lib.ListN.{get_or}
use Rattle.array.specs.Bytes.{digits}
use Rattle.array.specs.Buffers.{over_at}
use Rattle.array.proofs.Bytes.{length_digits}
use Rattle.array.proofs.Laying.{laying_begins, laying_part, laying_is, laying_ends}
use Rattle.codec.specs.Mask.{bits_of}
use Rattle.mask_bits.proofs.Parts.{part_next, part_end, length_whole}
use Rattle.mask_unpack.proofs.unpack_whole.Invariants.{bits_from}
use Rattle.mask_unpack.proofs.unpack_whole.Goals as goal

pub loop-i-init : goal.loop-i-init
loop-i-init c =
    let a = c.args in
    laying_begins (bits_from a.s.now a.at a.whole 0) a.planes.now a.to (omega (arith, c.requires.0, length_whole a.s.now a.at a.whole c.requires.1))

pub loop-i-preserved : goal.loop-i-preserved
loop-i-preserved c =
    let a = c.args in
    let i : ℕ = c.loop-i.i in
    let g : List ℕ = digits 2 8 (get_or a.s.now (a.at + i) 0) in
    let rest : List ℕ = bits_from a.s.now a.at a.whole (i + 1) in
    let next : bits_from a.s.now a.at a.whole i ≡ g ++ rest = ap bits_of (part_next a.s.now a.at a.whole c.requires.1 i (omega arith)) in
    let laid : c.put_u64.new.out ≡ over_at (a.to + i * 8) g c.loop-i.planes =
    c.put_u64.ensures ∙ ap (λ (x : List ℕ). over_at (a.to + i * 8) x c.loop-i.planes) c.eight_bytes.ensures in
    laying_part (bits_from a.s.now a.at a.whole 0) a.planes.now a.to c.loop-i.planes (i * 8) g rest (laying_is c.loop-i.invariant next)
    c.put_u64.new.out laid ((i + 1) * 8) (omega (arith, length_digits 2 8 (get_or a.s.now (a.at + i) 0)))

pub returns : goal.returns
returns c =
    let a = c.args in
    let none : bits_from a.s.now a.at a.whole c.loop-i.i ≡ [] = ap bits_of (part_end a.s.now a.at a.whole c.requires.1 c.loop-i.i (omega arith)) in
    laying_ends (bits_from a.s.now a.at a.whole 0) a.planes.now a.to c.loop-i.planes (c.loop-i.i * 8) (laying_is c.loop-i.invariant none)
