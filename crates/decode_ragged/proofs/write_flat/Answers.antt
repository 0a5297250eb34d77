-- `write_flat` meets its contract: offsets and bytes as they are stored (RaggedWritten).
-- Assumes nothing.
use Rattle.decode_ragged.proofs.RaggedWritten.{flat_short_offsets}
use Rattle.decode_ragged.proofs.write_flat.Goals as goal

pub returns-then-offsets-count : goal.returns-then-offsets-count
returns-then-offsets-count c = flat_short_offsets c.requires.1 c.args.values.now c.args.offsets.now c.if-offsets-count.true
