-- `table_move::move_cells` meets its contract, by the laws of the walk.
-- Assumes nothing.
use mathlib.Core.List.{[]}
use lib.ListN.{length}
use Rattle.table.specs.Meaning.{table_by}
use Rattle.table.proofs.Walk.{Moving}
use Rattle.table_move.proofs.move_cells.Given as goal

abbrev pub invariant-loop-number : goal.invariant-loop-number
invariant-loop-number l = Moving l.most (length l.initial.starts) (table_by [] l.initial.starts l.lengths l.initial.store) l.order (table_by [] l.starts l.lengths l.store) l.number-index l.to l.moved
