-- `apart` meets its contract: no side before k is apart (proofs/Meeting).
-- Assumes nothing.
use Rattle.migrate_cells.proofs.Meeting.{Meeting}
use Rattle.migrate_cells.proofs.apart.Given as goal

abbrev pub invariant-loop-k : goal.invariant-loop-k
invariant-loop-k l = Meeting l.one.starts.now l.one.lens.now l.other.starts.now l.other.lens.now l.k
