-- `ragged::put_cell_offsets` meets its contract, by the laws of Placed.
-- Assumes nothing.
use Rattle.live_cells.specs.Levels.{shown_in}
use Rattle.guest_read.proofs.Placed.{Placed}
use Rattle.guest_read.proofs.ragged.put_cell_offsets.Given as goal

abbrev pub invariant-loop-j : goal.invariant-loop-j
invariant-loop-j l = Placed (shown_in l.level) l.level.cells l.offsets l.initial.out l.out l.to l.j
