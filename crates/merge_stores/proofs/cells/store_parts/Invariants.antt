-- `store_parts` meets its contract: the parts of the chunks before those that are left are stored (proofs/PartsStored).
-- Assumes nothing.
use mathlib.Core.Path.{◌≡◌}
use lib.ListN.{length}
use Rattle.array.specs.Subset.{subsets_of}
use Rattle.subset.specs.Cells.{subsets_in}
use Rattle.merge_stores.proofs.PartsStored.{StoreAll}
use Rattle.merge_stores.proofs.cells.store_parts.Given as goal

abbrev pub invariant-loop-part : goal.invariant-loop-part
invariant-loop-part l =
    let s = l.fn.subsets in
    let left = l.part-iterator.left in
    StoreAll s.shape.now (subsets_in s) l.initial.out l.base l.size l.src l.lead l.step l.out (subsets_of (length s.shape.now) left.numbers.now) l.pos
    × (left.shape.now ≡ s.shape.now)
