-- `rows` meets its contract: all rows are left (proofs/Rows).
-- Assumes nothing.
use Rattle.subset.proofs.Rows.{asked_left}
use Rattle.subset.proofs.walk.Subset.rows.Goals as goal

pub returns-clause-left : goal.returns-clause-left
returns-clause-left c = asked_left c.args.self.asked
