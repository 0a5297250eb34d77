-- `copy_rows` meets its contract: the values of the rows before the iterator's place, and where they end, lie in place (proofs/Ragged).
-- Assumes nothing.
use mathlib.Core.Path.{◌≡◌}
use lib.ListN.{drop}
use Rattle.subset.specs.Walk.{row_of}
use Rattle.subset.specs.Cells.{cells_of}
use Rattle.cut_ragged.specs.Source.{begins_in}
use Rattle.cut_ragged.proofs.Ragged.{Ragged}
use Rattle.cut_ragged.proofs.copy_rows.Given as goal

abbrev pub invariant-loop-row : goal.invariant-loop-row
invariant-loop-row l =
    let s = l.fn.subset in
    Ragged (begins_in l.src) (drop l.src.base l.src.bytes.now) (cells_of s) l.initial.values l.initial.offsets l.values l.offsets
    s.count (row_of s.lens.now) l.row-iterator.at l.total × (l.row-iterator.subset ≡ s)
