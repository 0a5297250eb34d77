-- `table_sums::top_of` meets its contract: the greatest end so far.
-- Assumes nothing.
use Prim.Native.Nat.{◌≤◌}
use mathlib.Core.Path.{◌≡◌}
use Rattle.array.specs.Places.{offset_at}
use Rattle.table_sums.proofs.Totals.{top_to}
use Rattle.table_sums.proofs.top_of.Given as goal

abbrev pub invariant-loop-j : goal.invariant-loop-j
invariant-loop-j l = (l.j ≤ l.n) × (l.top ≡ top_to (offset_at l.starts) (offset_at l.lengths) l.j) × (l.top ≤ l.size)
