-- `store_subset` meets its contract: the rows before the iterator's place are stored (proofs/RowsStored).
-- Assumes nothing.
use Prim.Native.Nat.{◌*◌}
use mathlib.Core.Path.{◌≡◌}
use lib.ListN.{drop}
use Rattle.array.specs.Places.{fixed_at}
use Rattle.subset.specs.Walk.{row_of}
use Rattle.subset.specs.Cells.{cells_of}
use Rattle.merge_stores.proofs.RowsStored.{Store}
use Rattle.merge_stores.proofs.cells.store_subset.Given as goal

abbrev pub invariant-loop-row : goal.invariant-loop-row
invariant-loop-row l =
    let s = l.fn.subset in
    let at = l.row-iterator.at in
    Store (fixed_at l.base l.size) (cells_of s) (drop l.first l.src) l.initial.out l.out s.count (row_of s.lens.now) at (at * l.size) × (l.row-iterator.subset ≡ s)
