-- `cell_at` meets its contract: the sides from k on give a cell, and what is left of i counts in the others (proofs/Index).
-- Assumes nothing.
use Rattle.subset.proofs.Index.{CellAt}
use Rattle.subset.proofs.cell_at.Given as goal

abbrev pub invariant-loop-k : goal.invariant-loop-k
invariant-loop-k l = CellAt l.shape l.starts l.lens l.i l.k l.v l.cell l.q
