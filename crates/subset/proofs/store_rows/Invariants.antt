-- `store_rows` meets its contract: the rows before the iterator's place lie in place (proofs/StoringCells).
-- Assumes nothing.
use mathlib.Core.Path.{◌≡◌}
use Rattle.subset.specs.Walk.{row_of}
use Rattle.subset.specs.Cells.{cells_of}
use Rattle.subset.proofs.StoringCells.{Stored}
use Rattle.subset.proofs.store_rows.Given as goal

abbrev pub invariant-loop-row : goal.invariant-loop-row
invariant-loop-row l =
    let s = l.fn.subset in
    Stored (cells_of s) l.initial.cells l.cells s.count (row_of s.lens.now) l.row-iterator.at × (l.row-iterator.subset ≡ s)
