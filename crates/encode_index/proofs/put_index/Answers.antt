-- `encode_index::put_index` meets its contract: by the laws of Listing.
-- Assumes nothing.
use native.Mathlib.Omega.{arith}
use Rattle.encode_index.proofs.Indexing.{listing_ends, listing_room, listing_more}
use Rattle.encode_index.proofs.put_index.Goals as goal

pub put_offset-requires : goal.put_offset-requires
put_offset-requires c = omega (arith, listing_room c.loop-offset.invariant c.loop-offset-test.true)

pub loop-offset-preserved : goal.loop-offset-preserved
loop-offset-preserved c = listing_more c.loop-offset.invariant c.loop-offset-test.true c.put_offset.ensures c.width_bytes-done.ensures

pub returns : goal.returns
returns c = listing_ends c.loop-offset.invariant c.loop-offset-test.false
