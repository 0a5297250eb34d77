-- `old_string` meets its contract: the strings before it are passed (proofs/OldStrings).
-- Assumes nothing.
use Rattle.migrate_step.proofs.OldStrings.{passing_next}
use Rattle.migrate_step.proofs.old_string.Goals as goal

pub loop-length-preserved : goal.loop-length-preserved
loop-length-preserved c = passing_next c.args.number c.loop-length.invariant c.loop-length-test.true c.requires.there
