-- `encode_data::LiveValues::put_runs` meets its contract: by the laws of Slicing.
-- Assumes nothing.
use native.Mathlib.Omega.{arith}
use Rattle.encode_data.proofs.Slicing.{slicing_ends, slicing_wrote}
use Rattle.encode_data.proofs.Slicing.{slicing_skip, slicing_rises, slicing_source, slicing_room, slicing_more}
use Rattle.encode_data.proofs.LiveValues.put_runs.Goals as goal

pub loop-i-preserved-then-mark-eq0 : goal.loop-i-preserved-then-mark-eq0
loop-i-preserved-then-mark-eq0 c = slicing_skip c.loop-i.invariant c.loop-i-test.true c.mark.ensures c.if-mark-eq0.true

pub copy_bytes-requires : goal.copy_bytes-requires
copy_bytes-requires c =
    let l = c.loop-i.invariant in
    let rises = slicing_rises l c.run-run.ensures c.loop-i-test.true in
    let source = slicing_source l c.run-run.ensures c.loop-i-test.true in
    (slicing_room l c.run-run.ensures c.loop-i-test.true, omega (arith, rises, source))

pub loop-i-preserved : goal.loop-i-preserved
loop-i-preserved c = slicing_more c.loop-i.invariant c.run-run.ensures c.loop-i-test.true c.copy_bytes.ensures

pub returns-clause-wrote : goal.returns-clause-wrote
returns-clause-wrote c = slicing_wrote c.loop-i.invariant c.loop-i-test.false

pub returns-clause-bytes : goal.returns-clause-bytes
returns-clause-bytes c = slicing_ends c.loop-i.invariant c.loop-i-test.false
