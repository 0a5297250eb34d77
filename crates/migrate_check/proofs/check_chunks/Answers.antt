-- `check_chunks` meets its contract: the chunks before those that are left are read (proofs/Walk), and as many strings as subsets are left.
-- Assumes nothing.
use mathlib.Core.Path.{ap}
use lib.ListN.{length}
use native.Mathlib.Omega.{arith}
use Rattle.std.proofs.lemmas.Result.{err_from_is_err_and}
use Rattle.array.specs.Limits.{most_cells}
use Rattle.subset.proofs.Rows.{asked_few}
use Rattle.subset.proofs.Steps.{PartStep, part_step, parts_end}
use Rattle.migrate_check.proofs.Walk.{walk_ends, walk_refused, walk_this, walk_other}
use Rattle.migrate_check.proofs.check_chunks.Goals.{In-Some, then-read-number, else-read-number}
use Rattle.migrate_check.proofs.check_chunks.Goals as goal

turn : (c : In-Some) → PartStep c.args.subsets.shape.now c.loop-part.part-iterator c.in-Some.part c.next.new.self
turn c = part_step c.args.subsets.shape.now c.loop-part.part-iterator c.loop-part.invariant.1 c.in-Some.part c.next.new.self c.in-Some.ensures.steps

pub read-requires : goal.read-requires
unfolding most_cells
read-requires c = asked_few c.in-Some.part.asked

pub returns-in_err-found : goal.returns-in_err-found
returns-in_err-found c =
    let t = turn (goal.at.returns-in_err-found c).In-Some in
    let p = err_from_is_err_and c.from_residual.result c.from_residual.ensures.1 in
    rw (p.1, p.2) (walk_refused c.loop-part.invariant.0 t.next t.asked c.split_first.ensures.first _ c.in_err-found.ensures)

pub loop-part-preserved : goal.loop-part-preserved
loop-part-preserved c =
    let t = turn (goal.at.loop-part-preserved c).In-Some in
    let w = c.loop-part.invariant in
    let f = c.split_first.ensures.first in
    let counted = ap length t.next in (
      elim c.if-read-number.branch [
        | then-read-number b ↦ rw b.bytes-is (walk_this w.0 t.next t.asked f c.in_ok-found.ensures b.if-read-number.true)
        | else-read-number b ↦ rw b.bytes-is (walk_other w.0 t.next t.asked f c.in_ok-found.ensures b.if-read-number.false)
      ],
      t.same,
      omega (arith, w.2, counted, c.split_first.ensures.counted),
      omega (arith, w.3, counted),
    )

pub returns : goal.returns
returns c = walk_ends c.loop-part.invariant.0 (parts_end c.args.subsets.shape.now c.loop-part.part-iterator c.loop-part.invariant.1 c.in-None.ensures.steps)
