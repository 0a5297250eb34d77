-- `cells::copy_values` meets its contract, by the laws of Reading.
-- Assumes nothing.
use Rattle.table.specs.Meaning.{lent_table}
use Rattle.table_read.proofs.Reading.{Reading}
use Rattle.table_read.proofs.cells.copy_values.Given as goal

abbrev pub invariant-loop-at : goal.invariant-loop-at
invariant-loop-at l = Reading l.cells (lent_table l.fn.table) l.initial.out_values l.initial.out_offsets l.out_values l.out_offsets l.at l.to l.first l.waiting
