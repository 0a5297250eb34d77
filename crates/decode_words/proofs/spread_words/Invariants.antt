-- `spread_words` meets its contract, by the laws of SpreadingValues; the next word is at hand.
-- Assumes nothing.
use mathlib.Core.Path.{◌≡◌}
use Prim.Native.Nat.{◌-◌}
use Rattle.array.specs.Meaning.{order_of}
use Rattle.array.specs.Bytes.{le}
use Rattle.decode_marks.specs.Next.{word_at}
use Rattle.decode_words.proofs.SpreadingValues.{SpreadingValues}
use lib.ListN.{length}
use Rattle.decode_words.proofs.spread_words.Given as goal

abbrev pub invariant-loop-k : goal.invariant-loop-k
invariant-loop-k l = SpreadingValues l.size.bytes (order_of l.order) l.plane l.s l.initial.values l.at l.cells l.values l.i l.k ×
    (le l.size.bytes l.v ≡ word_at l.size.bytes (order_of l.order) l.s l.at l.k l.cells)

abbrev pub decreases-loop-k : goal.decreases-loop-k
decreases-loop-k l = length l.plane - l.i
