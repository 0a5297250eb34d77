-- `interleaved::write::lengths_fit` meets its contract, by the laws of Fitting.
-- Assumes nothing.
use Rattle.encode_interleaved.proofs.Fitting.{Fitting}
use Rattle.encode_interleaved.proofs.write.lengths_fit.Given as goal

abbrev pub invariant-loop-end : goal.invariant-loop-end
invariant-loop-end l = Fitting l.ends l.start l.end-index
