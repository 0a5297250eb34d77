-- `put::put_cell_places` meets its contract, by the laws of Placing.
-- Assumes nothing.
use Rattle.table_make.proofs.Placing.{Placing}
use Rattle.table_make.proofs.put.put_cell_places.Given as goal

abbrev pub invariant-loop-j : goal.invariant-loop-j
invariant-loop-j l = Placing l.level.cells l.level.masks.now l.level.depth l.offsets l.initial.starts l.initial.lengths l.starts l.lengths l.to l.j
