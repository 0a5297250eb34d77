-- `count_bytes` meets its contract: what is counted, with what is left, is all (proofs/Walking).
-- Assumes nothing.
use Rattle.subset.specs.Cells.{cells_of}
use Rattle.migrate_check.specs.Chunks.{stored_of}
use Rattle.migrate_extract.specs.Chunks.{place_for, chunk_places, chunk_asked}
use Rattle.migrate_extract.proofs.Walking.{Walking}
use Rattle.migrate_extract.proofs.Effects.{Any, count_left}
use Rattle.migrate_extract.proofs.chunk.count_bytes.Given as goal

abbrev pub invariant-loop-i : goal.invariant-loop-i
invariant-loop-i l =
    let c = stored_of l.stored in
    Walking count_left Any (place_for l.asked) c l.part.count (cells_of l.part) l.i l.at l.sum (count_left 0 (chunk_places l.asked l.part) (chunk_asked l.asked l.part c))
