-- `store_lengths` meets its contract: the rows before the iterator's place are stored (proofs/RowsStored, proofs/LengthRows).
-- Assumes nothing.
use mathlib.Core.Path.{◌≡◌}
use Rattle.array.specs.Lists.{from}
use Rattle.array.specs.Places.{fixed_at, offset_at, steps_at}
use Rattle.subset.specs.Walk.{row_of}
use Rattle.subset.specs.Cells.{cells_of}
use Rattle.merge_stores.proofs.RowsStored.{Store}
use Rattle.merge_stores.proofs.ragged.store_lengths.Given as goal

abbrev pub invariant-loop-row : goal.invariant-loop-row
invariant-loop-row l =
    let s = l.fn.subset in
    let at = l.row-iterator.at in
    Store (fixed_at 1 1) (cells_of s) (steps_at (offset_at l.src) (from l.first s.count)) l.initial.out l.out s.count (row_of s.lens.now) at at × (l.row-iterator.subset ≡ s)
