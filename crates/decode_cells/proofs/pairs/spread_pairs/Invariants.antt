-- `spread_pairs` meets its contract, by the laws of SpreadingValues and PairLaws; the next two words are at hand.
-- Assumes nothing.
use mathlib.Core.Path.{◌≡◌}
use Prim.Native.Nat.{◌+◌, ◌-◌, ◌*◌}
use Rattle.array.specs.Bytes.{le}
use Rattle.array.specs.Meaning.{order_of}
use Rattle.decode_marks.specs.Next.{word_at}
use Rattle.decode_words.proofs.SpreadingValues.{SpreadingValues}
use lib.ListN.{length}
use Rattle.decode_cells.proofs.pairs.spread_pairs.Given as goal

abbrev pub invariant-loop-k : goal.invariant-loop-k
invariant-loop-k l = SpreadingValues 16 (order_of l.order) l.plane l.s l.initial.values l.at l.cells l.values l.i l.k ×
    (le 8 l.v ≡ word_at 8 (order_of l.order) l.s l.at (2 * l.k + l.a) (2 * l.cells)) ×
    (le 8 l.u ≡ word_at 8 (order_of l.order) l.s l.at (2 * l.k + (1 - l.a)) (2 * l.cells))

abbrev pub decreases-loop-k : goal.decreases-loop-k
decreases-loop-k l = length l.plane - l.i
