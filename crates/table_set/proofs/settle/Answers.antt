-- `settle` meets its contract, by the laws of Settling.
-- Assumes nothing.
use Rattle.table_set.proofs.Settling.{settles_none, settles_some, put_asked}
use Rattle.table_set.proofs.settle.Goals as goal

pub put_bytes-requires : goal.put_bytes-requires
put_bytes-requires c = put_asked c.requires c.if-some.true

pub returns-then-some : goal.returns-then-some
returns-then-some c = settles_some c.requires c.if-some.true c.put_masks.ensures c.put_bytes.ensures

pub returns-else-some : goal.returns-else-some
returns-else-some c = settles_none c.requires c.if-some.false c.put_masks.ensures
