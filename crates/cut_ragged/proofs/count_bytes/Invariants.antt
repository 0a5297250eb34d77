-- `count_bytes` meets its contract: the rows before the iterator's place are counted (proofs/Counting).
-- Assumes nothing.
use mathlib.Core.Path.{◌≡◌}
use Rattle.subset.specs.Walk.{row_of}
use Rattle.subset.specs.Cells.{cells_of}
use Rattle.cut_ragged.proofs.Counting.{Counting}
use Rattle.cut_ragged.specs.Source.{begins_in}
use Rattle.cut_ragged.proofs.count_bytes.Given as goal

abbrev pub invariant-loop-row : goal.invariant-loop-row
invariant-loop-row l =
    let s = l.fn.subset in
    Counting (begins_in l.src) (cells_of s) s.count (row_of s.lens.now) l.row-iterator.at l.total × (l.row-iterator.subset ≡ s)
