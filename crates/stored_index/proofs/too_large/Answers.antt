-- `too_large` meets its contract.
-- Assumes nothing.
use Rattle.array.specs.Limits.{most_bytes}
use Rattle.stored_index.proofs.IndexLaws.{over_limit}
use Rattle.stored_index.proofs.too_large.Goals as goal

pub returns : goal.returns
unfolding most_bytes
returns c = over_limit c.args.bytes
