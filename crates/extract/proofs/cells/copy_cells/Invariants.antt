-- `copy_cells` meets its contract: the rows before the iterator's place lie in place (proofs/Walk).
-- Assumes nothing.
use Prim.Native.Nat.{◌*◌}
use mathlib.Core.Path.{◌≡◌}
use Rattle.array.specs.Places.{fixed_at}
use Rattle.subset.specs.Walk.{row_of}
use Rattle.subset.specs.Cells.{cells_of}
use Rattle.cut_ragged.proofs.Walk.{Copied}
use Rattle.extract.proofs.cells.copy_cells.Given as goal

abbrev pub invariant-loop-row : goal.invariant-loop-row
invariant-loop-row l =
    let s = l.fn.subset in
    let at = l.row-iterator.at in
    Copied (fixed_at l.base l.size) l.src (cells_of s) l.initial.out l.to l.out s.count (row_of s.lens.now) at (at * l.size) × (l.row-iterator.subset ≡ s)
