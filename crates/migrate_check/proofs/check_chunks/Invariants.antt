-- `check_chunks` meets its contract: the chunks before those that are left are read (proofs/Walk), and as many strings as subsets are left.
-- Assumes nothing.
use mathlib.Core.Path.{◌≡◌}
use Prim.Native.Nat.{◌+◌}
use lib.ListN.{length}
use Rattle.array.specs.Subset.{subsets_of}
use Rattle.subset.specs.Cells.{subsets_in}
use Rattle.migrate_check.specs.Chunks.{chunks_in}
use Rattle.migrate_check.proofs.Walk.{Walked}
use Rattle.migrate_check.proofs.check_chunks.Given as goal

abbrev pub invariant-loop-part : goal.invariant-loop-part
invariant-loop-part l =
    let s = l.fn.subsets in
    let parts = l.part-iterator.left in
    let rest = subsets_of (length s.shape.now) parts.numbers.now in
    Walked l.fn.number (subsets_in s) (chunks_in l.fn.stored) rest (chunks_in l.left) l.read l.bytes × (parts.shape.now ≡ s.shape.now)
    × (length rest ≡ length l.left.old_lengths.now) × (l.read + length rest ≡ length (subsets_in s))
