-- `store_steps` meets its contract: i lengths are copied, as if they lay there (proofs/LengthRows over array's Copying).
-- Assumes nothing.
use native.Mathlib.Omega.{arith}
use Rattle.array.specs.Places.{offset_at, step_at}
use Rattle.buffer.proofs.Copying.{copy_begins}
use Rattle.merge_stores.proofs.LengthRows.{steps_more, steps_end}
use Rattle.merge_stores.proofs.RaggedMerge.{many_from}
use Rattle.merge_stores.proofs.ragged.store_steps.Goals as goal

pub loop-i-init : goal.loop-i-init
loop-i-init c = copy_begins c.requires.0 (omega (arith, many_from (step_at (offset_at c.args.src.now)) c.args.first c.args.n))

pub loop-i-preserved : goal.loop-i-preserved
loop-i-preserved c = steps_more c.args.src.now c.args.first c.loop-i.invariant (omega arith)

pub returns : goal.returns
returns c = steps_end c.args.src.now c.args.first c.loop-i.invariant c.loop-i-test.false
