-- `place_of` meets its contract: the sides before k are done, and what is left counts in the others (proofs/Places).
-- Assumes nothing.
use Rattle.migrate_cells.proofs.Places.{Finding}
use Rattle.migrate_cells.proofs.place_of.Given as goal

abbrev pub invariant-loop-k : goal.invariant-loop-k
invariant-loop-k l = Finding l.subset.shape.now l.subset.starts.now l.subset.lens.now l.cell l.k l.inner l.left l.place
