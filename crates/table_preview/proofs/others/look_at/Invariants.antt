-- `others::look_at` meets its contract, by the laws of Looking.
-- Assumes nothing.
use Rattle.table_preview.proofs.Looking.{Looked}
use Rattle.table_preview.proofs.others.look_at.Given as goal

abbrev pub invariant-loop-number : goal.invariant-loop-number
invariant-loop-number l = Looked l.starts l.lengths l.cell l.order l.unpacked l.packed l.top l.number-index
