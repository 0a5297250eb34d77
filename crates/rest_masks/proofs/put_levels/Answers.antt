-- `put_levels` meets its contract, by the laws of Descending.
-- Assumes nothing.
use Rattle.rest_masks.proofs.Descending.{descending_at, descending_begins, descending_ends, descending_more}
use Rattle.rest_masks.proofs.put_levels.Goals as goal

pub loop-l-init : goal.loop-l-init
loop-l-init c = descending_at (descending_begins c.requires.1)

pub loop-l-preserved : goal.loop-l-preserved
loop-l-preserved c = descending_at (descending_more c.loop-l.invariant c.loop-l-test.true c.requires.1 c.put_below.ensures)

pub returns : goal.returns
returns c = descending_ends c.loop-l.invariant c.loop-l-test.false
