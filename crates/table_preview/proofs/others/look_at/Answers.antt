-- `others::look_at` meets its contract, by the laws of Looking.
-- Assumes nothing.
use native.Mathlib.Omega.{arith}
use Rattle.table.specs.Table.{most_store}
use Rattle.table_preview.proofs.Looking.{looked_past, bytes_small, looked_more, looked_is}
use Rattle.table_preview.proofs.others.look_at.Goals.{then-other, else-other}
use Rattle.table_preview.proofs.others.look_at.Goals as goal

pub overflow_add-packed : goal.overflow_add-packed
unfolding most_store
overflow_add-packed c = omega (arith, bytes_small c.loop-number.invariant c.loop-number-test.true c.if-other.true)

pub loop-number-preserved : goal.loop-number-preserved
loop-number-preserved c =
    let l = c.loop-number.invariant in
    let h = c.loop-number-test.true in
    elim c.if-other.branch [
      | then-other w ↦ looked_is (looked_more l h w.if-other.true w.counted-unpacked.ensures w.max-top.ensures) w.unpacked-is w.packed-is w.top-is
      | else-other w ↦ looked_is (looked_past l h w.if-other.false) w.unpacked-is w.packed-is w.top-is
    ]
