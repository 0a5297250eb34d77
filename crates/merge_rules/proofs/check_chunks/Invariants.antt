-- `check_chunks` meets its contract: what is left to check gives what the whole gives (proofs/ChunkWalk).
-- Assumes nothing.
use mathlib.Core.Path.{◌≡◌}
use lib.ListN.{length}
use Rattle.array.specs.Meaning.{kind_of, lent}
use Rattle.array.specs.Subset.{subsets_of}
use Rattle.subset.specs.Cells.{subsets_in}
use Rattle.merge_rules.proofs.ChunkWalk.{Walked}
use Rattle.merge_rules.proofs.check_chunks.Given as goal

abbrev pub invariant-loop-part : goal.invariant-loop-part
invariant-loop-part l =
    let s = l.fn.subsets in
    let left = l.part-iterator.left in
    Walked (kind_of l.kind) (subsets_in s) (lent l.fn.array) (subsets_of (length s.shape.now) left.numbers.now) l.p l.v l.o
    × (left.shape.now ≡ s.shape.now)
