-- `endian::in_place::reverse_cell`: each turn leaves a smaller cell to reverse (Reversing, Swapping).
-- Assumes nothing.
use mathlib.Core.List.{List}
use Prim.Native.Nat.{ℕ, ◌+◌, ◌-◌, ◌*◌}
use Rattle.endian.proofs.Reversing.{Swapping}
use Rattle.endian.proofs.in_place.reverse_cell.Given as goal

abbrev pub invariant-loop-i : goal.invariant-loop-i
invariant-loop-i l = Swapping l.at l.size l.initial.bytes l.bytes (l.at + l.i * 8) (l.size - l.i * 16)

abbrev pub invariant-loop-j : goal.invariant-loop-j
invariant-loop-j l = (d : List ℕ) → Swapping l.at l.size d l.initial.bytes l.low l.left → Swapping l.at l.size d l.bytes (l.low + l.j) (l.left - l.j * 2)
