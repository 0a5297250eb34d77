-- `store_lengths_all` meets its contract: the lengths of the chunks before those that are left are stored (proofs/LengthsStored).
-- Assumes nothing.
use mathlib.Core.Path.{◌≡◌}
use lib.ListN.{length}
use Rattle.array.specs.Subset.{subsets_of}
use Rattle.subset.specs.Cells.{subsets_in}
use Rattle.merge_stores.proofs.LengthsStored.{LengthsAll}
use Rattle.merge_stores.proofs.ragged.store_lengths_all.Given as goal

abbrev pub invariant-loop-part : goal.invariant-loop-part
invariant-loop-part l =
    let s = l.fn.subsets in
    let left = l.part-iterator.left in
    LengthsAll s.shape.now (subsets_in s) l.initial.out l.src l.out (subsets_of (length s.shape.now) left.numbers.now) l.first × (left.shape.now ≡ s.shape.now)
