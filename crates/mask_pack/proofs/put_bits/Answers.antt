-- `mask_pack::put_bits` meets its contract. The invariant: the bits of the first i mask bytes lie there, and those of the others are left.
-- Assumes nothing.
use mathlib.Core.Path.{◌≡◌, sym, ap, subst, ◌∙◌}
use native.Mathlib.Nat.{zero-add}
use mathlib.Core.List.{List, ◌∷◌, map}
use Prim.Native.Nat.{ℕ, ◌+◌}
use native.Mathlib.Omega.{arith}
use lib.ListN.{get_or, set}
use Rattle.array.specs.Cells.{bit_of}
use Rattle.array.proofs.Laying.{Laying, laying_store, laying_is}
use Rattle.mask_bits.proofs.Said.{bit_one}
use Rattle.mask_bits.proofs.Parts.{part_next}
use Rattle.mask_pack.proofs.put_bits.Invariants.{bits_from}
use Rattle.mask_pack.proofs.put_bits.Goals as goal

pub loop-i-preserved : goal.loop-i-preserved
loop-i-preserved c =
    let a = c.args in
    let i : ℕ = c.loop-i.i in
    let rest : List ℕ = bits_from a.planes.now a.at a.count (i + 1) in
    let bit : bit_of (get_or a.planes.now (a.at + i) 0) ≡ c.one_if_set.result = sym (c.one_if_set.ensures ∙ bit_one (get_or a.planes.now (a.at + i) 0)) in
    let next : bits_from a.planes.now a.at a.count i ≡ c.one_if_set.result ∷ rest =
    ap (map bit_of) (part_next a.planes.now a.at a.count c.requires.0 i (omega arith)) ∙ ap (λ (b : ℕ). b ∷ rest) bit in
    let want : List ℕ = bits_from a.planes.now a.at a.count 0 in
    subst (λ (k : ℕ). Laying want a.block.now 0 (set c.loop-i.block k c.one_if_set.result) (i + 1) rest) (zero-add i)
    (laying_store want a.block.now 0 c.loop-i.block i c.one_if_set.result rest (laying_is c.loop-i.invariant next))
