-- `encode_index::put_index` meets its contract: by the laws of Listing.
-- Assumes nothing.
use Rattle.array.specs.Meaning.{width_of}
use Rattle.encode_index.proofs.Indexing.{Listing}
use Rattle.encode_index.proofs.put_index.Given as goal

abbrev pub invariant-loop-offset : goal.invariant-loop-offset
invariant-loop-offset l = Listing (width_of l.width) l.offsets l.initial.out l.to l.out l.offset-index l.done
