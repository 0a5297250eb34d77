-- `subsets_fit` meets its contract: the subsets that are left give what all give (proofs/Fitting).
-- Assumes nothing.
use mathlib.Core.Path.{◌≡◌}
use Prim.Native.Nat.{◌*◌}
use lib.ListN.{length}
use Rattle.std.specs.Slice.Iter.{chunks_exact_rest, chunks_exact_size}
use Rattle.subset.proofs.Fitting.{Fitting}
use Rattle.subset.proofs.subsets_fit.Given as goal

abbrev pub invariant-loop-subset : goal.invariant-loop-subset
invariant-loop-subset l = Fitting l.shape l.numbers (chunks_exact_rest l.subset-iterator) × (chunks_exact_size l.subset-iterator ≡ 2 * length l.shape)
