-- `store_masks` meets its contract: the first l mask levels are merged (proofs/MasksStored).
-- Assumes nothing.
use Rattle.subset.specs.Cells.{subsets_in}
use Rattle.merge_stores.proofs.MasksStored.{Stored}
use Rattle.merge_stores.proofs.cells.store_masks.Given as goal

abbrev pub invariant-loop-l : goal.invariant-loop-l
invariant-loop-l l = Stored l.fn.subsets.shape.now (subsets_in l.fn.subsets) l.initial.out l.src l.depth l.cells l.out l.l
