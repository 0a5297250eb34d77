-- `merge_ragged` meets its contract: what each of the three calls asks follows from what the last one left (proofs/RaggedWhole).
-- Assumes nothing.
use Rattle.array.specs.Lists.{All}
use Rattle.array.specs.Subset.{SubsetOk}
use Rattle.subset.specs.Cells.{subsets_in}
use Rattle.subset.proofs.Subsets.{all_inside}
use Rattle.merge_stores.proofs.RaggedWhole.{second_asked, offsets_are, third_asked}
use Rattle.merge_stores.proofs.ragged.merge_ragged.Goals.{Start}
use Rattle.merge_stores.proofs.ragged.merge_ragged.Goals as goal

inside : (c : Start) → All (SubsetOk c.args.subsets.shape.now) (subsets_in c.args.subsets)
inside c = all_inside _ _ c.args.subsets.each.many.each

pub sum_up-requires : goal.sum_up-requires
sum_up-requires c = second_asked (inside (goal.at.sum_up-requires c).Start) c.requires c.store_lengths_all.ensures

pub store_ragged_all-requires : goal.store_ragged_all-requires
store_ragged_all-requires c = third_asked (inside (goal.at.store_ragged_all-requires c).Start) c.requires c.store_lengths_all.ensures c.sum_up.ensures

pub returns-clause-offsets : goal.returns-clause-offsets
returns-clause-offsets c = offsets_are (inside (goal.at.returns-clause-offsets c).Start) c.requires c.store_lengths_all.ensures c.sum_up.ensures
