-- `mask_unpack::eight_bytes` meets its contract: its number, computed for every byte (Words).
-- Assumes nothing.
use native.Mathlib.Omega.{arith}
use Rattle.mask_unpack.proofs.Words.{eight_at}
use Rattle.mask_unpack.proofs.eight_bytes.Goals as goal

pub returns : goal.returns
returns c = eight_at c.args.b (omega (arith, c.ranges.b))
