-- `put_bytes` meets its contract, by the laws of Showing: a byte a turn.
-- Assumes nothing.
use Rattle.shown_cells.proofs.Showing.{Showing}
use Rattle.shown_cells.proofs.put_bytes.Given as goal

abbrev pub invariant-loop-j : goal.invariant-loop-j
invariant-loop-j l = Showing 1 l.values l.plane l.initial.out l.out l.j
