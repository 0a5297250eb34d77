-- `store_ragged_all` meets its contract: the values of the chunks before those that are left are stored (proofs/RaggedStored).
-- Assumes nothing.
use mathlib.Core.Path.{◌≡◌}
use lib.ListN.{length}
use Rattle.array.specs.Subset.{subsets_of}
use Rattle.subset.specs.Cells.{subsets_in}
use Rattle.merge_stores.proofs.RaggedStored.{RaggedAll}
use Rattle.merge_stores.proofs.ragged.store_ragged_all.Given as goal

abbrev pub invariant-loop-part : goal.invariant-loop-part
invariant-loop-part l =
    let s = l.fn.subsets in
    let left = l.part-iterator.left in
    RaggedAll s.shape.now (subsets_in s) l.initial.out l.begins l.values l.src l.out (subsets_of (length s.shape.now) left.numbers.now) l.base l.first
    × (left.shape.now ≡ s.shape.now)
