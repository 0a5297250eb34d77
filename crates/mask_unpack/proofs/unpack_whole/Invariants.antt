-- `mask_unpack::unpack_whole` meets its contract. The invariant: the cells of the first i bytes lie there, and those of the others are left.
-- Assumes nothing.
use mathlib.Core.List.{List}
use Prim.Native.Nat.{ℕ, ◌*◌}
use lib.ListN.{take, drop}
use Rattle.array.proofs.Laying.{Laying}
use Rattle.codec.specs.Mask.{bits_of}
use Rattle.mask_unpack.proofs.unpack_whole.Given as goal

abbrev pub bits_from : List ℕ → ℕ → ℕ → ℕ → List ℕ
bits_from s at whole i = bits_of (drop i (take whole (drop at s)))

abbrev pub invariant-loop-i : goal.invariant-loop-i
invariant-loop-i l = Laying (bits_from l.s l.at l.whole 0) l.initial.planes l.to l.planes (l.i * 8) (bits_from l.s l.at l.whole l.i)
