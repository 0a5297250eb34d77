-- `store_ragged` meets its contract: the rows before the iterator's place are stored (proofs/RaggedRows over proofs/RowsStored).
-- Assumes nothing.
use Prim.Native.Nat.{◌+◌}
use mathlib.Core.Path.{◌≡◌}
use lib.ListN.{drop}
use Rattle.array.specs.Places.{offset_at}
use Rattle.subset.specs.Walk.{row_of}
use Rattle.subset.specs.Cells.{cells_of}
use Rattle.merge_stores.proofs.RowsStored.{Store}
use Rattle.merge_stores.proofs.ragged.store_ragged.Given as goal

abbrev pub invariant-loop-row : goal.invariant-loop-row
invariant-loop-row l =
    let s = l.fn.subset in
    let at = l.row-iterator.at in
    Store (offset_at l.begins) (cells_of s) (drop l.base l.values) l.initial.out l.out s.count (row_of s.lens.now) at (offset_at l.src (l.first + at)) × (l.row-iterator.subset ≡ s)
