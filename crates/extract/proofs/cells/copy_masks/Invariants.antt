-- `copy_masks` meets its contract: the planes of the levels before `level` lie in place (proofs/Walk).
-- Assumes nothing.
use Rattle.subset.specs.Cells.{cells_of}
use Rattle.extract.proofs.Walk.{Planes}
use Rattle.extract.proofs.cells.copy_masks.Given as goal

abbrev pub invariant-loop-level : goal.invariant-loop-level
invariant-loop-level l = Planes l.depth l.cells l.subset.count l.src (cells_of l.subset) l.initial.out l.out l.level
