-- `store_lengths` meets its contract: what is done, with the chunks that are left, is all (proofs/Passing), and as many strings as subsets are left.
-- Assumes nothing.
use mathlib.Core.Path.{◌≡◌}
use lib.ListN.{length}
use Rattle.array.specs.Subset.{subsets_of}
use Rattle.subset.specs.Cells.{cells_of}
use Rattle.migrate_check.specs.Chunks.{chunks_in}
use Rattle.migrate_extract.specs.Chunks.{all_places, all_asked}
use Rattle.migrate_extract.proofs.Passing.{Passing}
use Rattle.migrate_extract.proofs.Effects.{Any, lengths_left}
use Rattle.migrate_extract.proofs.walk.store_lengths.Given as goal

abbrev pub invariant-loop-part : goal.invariant-loop-part
invariant-loop-part l =
    let sh = l.fn.subsets.shape.now in
    let parts = l.part-iterator.left in
    let rest = subsets_of (length sh) parts.numbers.now in
    Passing lengths_left Any (cells_of l.asked) sh rest (chunks_in l.left) l.offsets
    (lengths_left l.fn.offsets (all_places l.asked l.fn.subsets) (all_asked l.asked l.fn.subsets (chunks_in l.fn.stored)))
    × (parts.shape.now ≡ sh) × (length rest ≡ length l.left.old_lengths.now)
