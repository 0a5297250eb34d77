-- `endian::cells::copy_words`: the first cells lie there, a line a turn and then one, by the laws for any size (Copying).
-- Assumes nothing.
use mathlib.Core.List.{List}
use Prim.Native.Nat.{ℕ, ◌*◌, ◌≤◌}
use Rattle.endian.proofs.Copying.{Copies}
use Rattle.endian.proofs.cells.copy_words.Given as goal

abbrev pub invariant-loop-i : goal.invariant-loop-i
invariant-loop-i l = (l.i ≤ l.lines) × Copies l.initial.out l.to l.s l.at l.size.bytes l.cells l.out (l.i * l.line)

abbrev pub invariant-loop-j : goal.invariant-loop-j
invariant-loop-j l = (d : List ℕ) → Copies d l.to l.s l.at l.size.bytes l.cells l.initial.out l.initial.j → Copies d l.to l.s l.at l.size.bytes l.cells l.out l.j
