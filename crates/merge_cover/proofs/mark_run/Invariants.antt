-- `mark_run` meets its contract: what is left to mark gives what the whole gives (proofs/MarkRuns).
-- Assumes nothing.
use Prim.Native.Nat.{◌≤◌, ◌-◌}
use mathlib.Core.Path.{◌≡◌}
use lib.ListN.{length}
use Rattle.array.specs.Lists.{from}
use Rattle.merge_cover.specs.Bits.{marks_of}
use Rattle.merge_cover.specs.Marks.{marking}
use Rattle.merge_cover.proofs.mark_run.Given as goal

abbrev pub invariant-loop-i : goal.invariant-loop-i
invariant-loop-i l = (l.i ≤ l.end) × (l.end ≤ 65536) × (length l.words ≡ 1024) ×
    (marking (marks_of l.initial.words) (from l.start l.len) ≡ marking (marks_of l.words) (from l.i (l.end - l.i)))

abbrev pub decreases-loop-i : goal.decreases-loop-i
decreases-loop-i l = l.end - l.i
