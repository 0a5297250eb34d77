-- `mark_subset` meets its contract: the rows before the iterator's place are marked (proofs/Marking).
-- Assumes nothing.
use mathlib.Core.Path.{◌≡◌}
use Rattle.subset.specs.Walk.{row_of}
use Rattle.subset.specs.Cells.{cells_of}
use Rattle.merge_cover.specs.Bits.{marks_of}
use Rattle.merge_cover.proofs.Marking.{Marked}
use Rattle.merge_cover.proofs.mark_subset.Given as goal

abbrev pub invariant-loop-row : goal.invariant-loop-row
invariant-loop-row l =
    let s = l.fn.subset in
    Marked (cells_of s) (marks_of l.initial.words) (marks_of l.words) s.count (row_of s.lens.now) l.row-iterator.at
    × (l.row-iterator.subset ≡ s)
