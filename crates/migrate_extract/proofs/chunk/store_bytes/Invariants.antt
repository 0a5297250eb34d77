-- `store_bytes` meets its contract: what is stored, with what is left, is all (proofs/Walking).
-- Assumes nothing.
use lib.ListN.{length}
use Rattle.subset.specs.Cells.{cells_of}
use Rattle.migrate_check.specs.Chunks.{stored_of}
use Rattle.migrate_extract.specs.Chunks.{place_for, chunk_places, chunk_asked, Placed}
use Rattle.migrate_extract.proofs.Walking.{Walking}
use Rattle.migrate_extract.proofs.Effects.{bytes_left}
use Rattle.migrate_extract.proofs.chunk.store_bytes.Given as goal

abbrev pub invariant-loop-i : goal.invariant-loop-i
invariant-loop-i l =
    let c = stored_of l.stored in
    Walking (bytes_left l.begins) (Placed l.begins (length l.fn.values)) (place_for l.asked) c l.part.count (cells_of l.part) l.i l.at l.values
    (bytes_left l.begins l.fn.values (chunk_places l.asked l.part) (chunk_asked l.asked l.part c))
