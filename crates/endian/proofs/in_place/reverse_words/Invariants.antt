-- `endian::in_place::reverse_words`: the first cells are reversed, a line a turn and then one, by the laws for any size (Copying).
-- Assumes nothing.
use mathlib.Core.List.{List}
use Prim.Native.Nat.{ℕ, ◌*◌, ◌/◌, ◌≤◌}
use Rattle.endian.proofs.Copying.{Copies}
use Rattle.endian.proofs.in_place.reverse_words.Given as goal

abbrev pub invariant-loop-i : goal.invariant-loop-i
invariant-loop-i l = (l.i ≤ l.lines) × Copies l.initial.bytes 0 l.initial.bytes 0 l.size.bytes (l.all / l.size.bytes) l.bytes (l.i * l.line)

abbrev pub invariant-loop-j : goal.invariant-loop-j
invariant-loop-j l = (d : List ℕ) → Copies d 0 d 0 l.size.bytes l.cells l.initial.bytes l.initial.j → Copies d 0 d 0 l.size.bytes l.cells l.bytes l.j
