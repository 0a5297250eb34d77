-- `mask_pack::put_bits` meets its contract. The invariant: the bits of the first i mask bytes lie there, and those of the others are left.
-- Assumes nothing.
use mathlib.Core.List.{List, map}
use Prim.Native.Nat.{ℕ}
use lib.ListN.{take, drop}
use Rattle.array.specs.Cells.{bit_of}
use Rattle.array.proofs.Laying.{Laying}
use Rattle.mask_pack.proofs.put_bits.Given as goal

abbrev pub bits_from : List ℕ → ℕ → ℕ → ℕ → List ℕ
bits_from planes at count i = map bit_of (drop i (take count (drop at planes)))

abbrev pub invariant-loop-i : goal.invariant-loop-i
invariant-loop-i l = Laying (bits_from l.planes l.at l.count 0) l.initial.block 0 l.block l.i (bits_from l.planes l.at l.count l.i)
