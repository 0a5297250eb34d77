-- `put_bytes` meets its contract, by the laws of Showing: a byte a turn.
-- Assumes nothing.
use Rattle.shown_cells.proofs.Showing.{showing_begins, showing_byte}
use Rattle.shown_cells.proofs.put_bytes.Goals as goal

pub loop-j-init : goal.loop-j-init
loop-j-init c = showing_begins c.requires

pub loop-j-preserved : goal.loop-j-preserved
loop-j-preserved c = showing_byte c.loop-j.invariant c.loop-j-test.true c.mark_of.ensures c.if_set.ensures
