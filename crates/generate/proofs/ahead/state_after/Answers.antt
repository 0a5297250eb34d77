-- `ahead::state_after` meets its contract, by the laws of Factors.
-- Assumes nothing.
use Rattle.generate.proofs.Factors.{listed}
use Rattle.generate.proofs.ahead.state_after.Goals as goal

pub returns : goal.returns
returns c = listed c.args.j c.args.first.state c.requires
