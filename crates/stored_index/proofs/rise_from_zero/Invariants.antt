-- `rise_from_zero` meets its contract. The invariant, Rises: the test of all offsets is the test of those that are left.
-- Assumes nothing.
use Prim.Native.Nat.{◌-◌, ◌*◌}
use Rattle.stored_index.proofs.IndexLaws.{Rises}
use Rattle.stored_index.proofs.rise_from_zero.Given as goal

abbrev pub invariant-loop-turn : goal.invariant-loop-turn
invariant-loop-turn l = Rises l.w l.n l.s l.at l.first l.prev l.p (l.n - 2 * l._turn)
