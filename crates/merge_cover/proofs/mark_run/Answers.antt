-- `mark_run` meets its contract: what is left to mark gives what the whole gives (proofs/MarkRuns).
-- Assumes nothing.
use Prim.Native.Nat.{◌≤◌, ◌+◌, ◌%◌}
use mathlib.Core.Path.{sym, ◌∙◌}
use native.Mathlib.Omega.{arith}
use Rattle.merge_cover.specs.Bits.{marks_of}
use Rattle.merge_cover.proofs.MarkRuns.{run_more}
use Rattle.merge_cover.proofs.RunBits.{in_word, run_stops}
use Rattle.merge_cover.proofs.mark_run.Goals.{After-in_word-n}
use Rattle.merge_cover.proofs.mark_run.Goals as goal

-- the turn's cells lie in one word and in the run
inside : (c : After-in_word-n) → let i = c.loop-i.i in let n = c.in_word-n.result in (1 ≤ n) × (i % 64 + n ≤ 64) × (i + n ≤ c.args.start + c.args.len)
inside c = in_word c.loop-i.i (c.args.start + c.args.len) (omega arith) c.in_word-n.ensures

pub returns-then-marks_at-ne0 : goal.returns-then-marks_at-ne0
returns-then-marks_at-ne0 c =
    let n = inside (goal.at.returns-then-marks_at-ne0 c).After-in_word-n in
    sym (c.loop-i.invariant.3
    ∙ run_more (marks_of c.loop-i.words) c.loop-i.i c.in_word-n.result (c.args.start + c.args.len) n.2
    (run_stops c.loop-i.words c.loop-i.i c.in_word-n.result (omega (arith, c.loop-i.invariant.2)) n.1 (λ e. omega (arith, e, c.marks_at.ensures, c.if-marks_at-ne0.true))))

pub loop-i-preserved : goal.loop-i-preserved
loop-i-preserved c =
    let n = inside (goal.at.loop-i-preserved c).After-in_word-n in (
      n.2,
      omega arith,
      c.set_marks.array_long,
      c.loop-i.invariant.3 ∙ run_more (marks_of c.loop-i.words) c.loop-i.i c.in_word-n.result (c.args.start + c.args.len) n.2 (sym c.set_marks.ensures),
    )
