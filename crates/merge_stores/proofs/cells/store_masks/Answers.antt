-- `store_masks` meets its contract: the first l mask levels are merged (proofs/MasksStored).
-- Assumes nothing.
use native.Mathlib.Omega.{arith}
use Rattle.subset.proofs.Subsets.{all_inside}
use Rattle.merge_stores.proofs.MasksStored.{masks_more}
use Rattle.merge_stores.proofs.cells.store_masks.Goals as goal

pub loop-l-preserved : goal.loop-l-preserved
loop-l-preserved c = masks_more c.requires c.loop-l.invariant (omega arith) (all_inside _ _ c.args.subsets.each.many.each) c.store_parts.ensures
