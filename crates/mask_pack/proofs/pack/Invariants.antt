-- `mask_pack::pack` meets its contract. The invariant: the bytes of the cells so far lie there, whole ones while cells are left, and those of the others are left.
-- Assumes nothing.
use mathlib.Core.Path.{◌≡◌}
use Prim.Native.Nat.{◌%◌, min}
use Rattle.array.proofs.Laying.{Laying}
use Rattle.codec.specs.Mask.{bytes_for}
use Rattle.mask_pack.proofs.Words.{packed_from}
use Rattle.mask_pack.proofs.pack.Given as goal

-- the last block may begin less than 256 cells before the end
abbrev pub invariant-loop-done : goal.invariant-loop-done
invariant-loop-done l =
    let reached = min l.done l.n in
    let left = packed_from l.planes l.at l.n in
    (l.done % 8 ≡ 0) × Laying (left 0) l.initial.out l.to l.out (bytes_for reached) (left reached)
