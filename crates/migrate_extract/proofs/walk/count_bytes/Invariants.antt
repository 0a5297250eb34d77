-- `count_bytes` meets its contract: what is done, with the chunks that are left, is all (proofs/Passing), and as many strings as subsets are left.
-- Assumes nothing.
use mathlib.Core.Path.{◌≡◌}
use Prim.Native.Nat.{◌≤◌}
use lib.ListN.{length}
use Rattle.array.specs.Limits.{most_bytes}
use Rattle.array.specs.Subset.{subsets_of}
use Rattle.subset.specs.Cells.{cells_of}
use Rattle.migrate_check.specs.Chunks.{chunks_in}
use Rattle.migrate_extract.specs.Chunks.{all_places, all_asked}
use Rattle.migrate_extract.proofs.Passing.{Passing}
use Rattle.migrate_extract.proofs.Effects.{Any, count_left}
use Rattle.migrate_extract.proofs.walk.count_bytes.Given as goal

abbrev pub invariant-loop-part : goal.invariant-loop-part
invariant-loop-part l =
    let sh = l.fn.subsets.shape.now in
    let parts = l.part-iterator.left in
    let rest = subsets_of (length sh) parts.numbers.now in
    Passing count_left Any (cells_of l.asked) sh rest (chunks_in l.left) l.sum (count_left 0 (all_places l.asked l.fn.subsets) (all_asked l.asked l.fn.subsets (chunks_in l.fn.stored)))
    × (parts.shape.now ≡ sh) × (length rest ≡ length l.left.old_lengths.now) × (l.sum ≤ most_bytes)
