-- `put_words` meets its contract, by the laws of Showing: a word a turn.
-- Assumes nothing.
use Rattle.shown_cells.proofs.Showing.{Showing}
use Rattle.shown_cells.proofs.put_words.Given as goal

abbrev pub invariant-loop-j : goal.invariant-loop-j
invariant-loop-j l = Showing l.size.bytes l.values l.plane l.initial.out l.out l.j
