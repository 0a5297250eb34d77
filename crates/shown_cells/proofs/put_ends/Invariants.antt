-- `put_ends` meets its contract, by the laws of Showing and Ends: two words a turn.
-- Assumes nothing.
use Rattle.shown_cells.proofs.Showing.{Showing}
use Rattle.shown_cells.proofs.put_ends.Given as goal

abbrev pub invariant-loop-j : goal.invariant-loop-j
invariant-loop-j l = Showing l.size l.values l.plane l.initial.out l.out l.j
