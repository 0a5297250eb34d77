-- `spread_runs` meets its contract, by the laws of SpreadingRuns: a null run and a set run a turn.
-- Assumes nothing.
use Prim.Native.Nat.{◌-◌}
use Rattle.array.specs.Meaning.{order_of}
use Rattle.decode_words.proofs.SpreadingValues.{SpreadingValues}
use lib.ListN.{length}
use Rattle.decode_cells.proofs.values.spread_runs.Given as goal

abbrev pub invariant-loop-k : goal.invariant-loop-k
invariant-loop-k l = SpreadingValues l.size (order_of l.order) l.plane l.s l.initial.values l.at l.cells l.values l.i l.k

abbrev pub decreases-loop-k : goal.decreases-loop-k
decreases-loop-k l = length l.plane - l.i
