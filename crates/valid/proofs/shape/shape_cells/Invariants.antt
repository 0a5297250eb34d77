-- `shape_cells` meets its contract: the sides from k on are counted, and each is limited before it is multiplied (proofs/ShapeLaws).
-- Assumes nothing.
use Rattle.valid.proofs.ShapeLaws.{Sides}
use Rattle.valid.proofs.shape.shape_cells.Given as goal

abbrev pub invariant-loop-k : goal.invariant-loop-k
invariant-loop-k l = Sides l.shape l.cells l.k
