-- `old_string` meets its contract: the strings before it are passed (proofs/OldStrings).
-- Assumes nothing.
use Rattle.migrate_step.proofs.OldStrings.{Passing}
use Rattle.migrate_step.proofs.old_string.Given as goal

abbrev pub invariant-loop-length : goal.invariant-loop-length
invariant-loop-length l = Passing l.table.old_lengths.now l.table.old.now l.left l.length-index
