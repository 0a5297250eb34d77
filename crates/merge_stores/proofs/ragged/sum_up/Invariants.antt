-- `sum_up` meets its contract: the first i lengths are summed (proofs/Summing).
-- Assumes nothing.
use Rattle.merge_stores.proofs.Summing.{Summed}
use Rattle.merge_stores.proofs.ragged.sum_up.Given as goal

abbrev pub invariant-loop-i : goal.invariant-loop-i
invariant-loop-i l = Summed l.initial.out l.out l.n l.i
