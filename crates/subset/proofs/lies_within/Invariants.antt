-- `lies_within` meets its contract: the sides from i on give what all give (proofs/Fitting).
-- Assumes nothing.
use Prim.Native.Nat.{◌≤◌}
use mathlib.Core.Path.{◌≡◌}
use lib.ListN.{length}
use Rattle.array.specs.Subset.{pairs, subset_test}
use Rattle.subset.proofs.Fitting.{fits_from}
use Rattle.subset.proofs.lies_within.Given as goal

abbrev pub invariant-loop-i : goal.invariant-loop-i
invariant-loop-i l = (l.i ≤ length l.shape) × (subset_test l.shape (pairs l.starts l.lens) ≡ fits_from l.shape l.starts l.lens l.i)
