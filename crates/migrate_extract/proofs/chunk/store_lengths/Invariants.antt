-- `store_lengths` meets its contract: what is stored, with what is left, is all (proofs/Walking).
-- Assumes nothing.
use Rattle.subset.specs.Cells.{cells_of}
use Rattle.migrate_check.specs.Chunks.{stored_of}
use Rattle.migrate_extract.specs.Chunks.{place_for, chunk_places, chunk_asked}
use Rattle.migrate_extract.proofs.Walking.{Walking}
use Rattle.migrate_extract.proofs.Effects.{Any, lengths_left}
use Rattle.migrate_extract.proofs.chunk.store_lengths.Given as goal

abbrev pub invariant-loop-i : goal.invariant-loop-i
invariant-loop-i l =
    let c = stored_of l.stored in
    Walking lengths_left Any (place_for l.asked) c l.part.count (cells_of l.part) l.i l.at l.offsets
    (lengths_left l.fn.offsets (chunk_places l.asked l.part) (chunk_asked l.asked l.part c))
