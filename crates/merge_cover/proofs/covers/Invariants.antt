-- `covers` meets its contract: the subsets before those that are left are marked, and as many cells as they have are taken off (proofs/Marking, proofs/Once).
-- Assumes nothing.
use mathlib.Core.Path.{◌≡◌}
use lib.ListN.{length}
use Rattle.array.specs.Subset.{subsets_of}
use Rattle.merge_cover.specs.Bits.{marks_of}
use Rattle.merge_cover.proofs.Marking.{AllMarked}
use Rattle.merge_cover.proofs.covers.Given as goal

abbrev pub invariant-loop-part : goal.invariant-loop-part
invariant-loop-part l =
    let s = l.fn.subsets in
    let left = l.part-iterator.left in
    AllMarked s.shape.now s.numbers.now (marks_of l.words) (subsets_of (length s.shape.now) left.numbers.now) l.left × (left.shape.now ≡ s.shape.now)
