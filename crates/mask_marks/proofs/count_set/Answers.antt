-- `mask_marks::count_set` meets its contract. The invariant: what is counted and what is left to count make the whole count.
-- Assumes nothing.
use mathlib.Core.Path.{ap, ◌∙◌}
use native.Mathlib.Omega.{arith}
use Rattle.std.specs.Slice.Iter.{chunks_rest}
use Rattle.codec.specs.Frame.{count_set}
use Rattle.codec.proofs.Marks.{count-append, count-le}
use Rattle.mask_marks.proofs.count_set.Goals as goal

pub overflow_add-n : goal.overflow_add-n
overflow_add-n c =
    let block = c.in-Some.block.now in
    let rest = chunks_rest c.next.new.self in
    let parts = ap count_set c.in-Some.ensures.steps.1.0 ∙ count-append block rest in
    omega (arith, parts, c.count_block.ensures, count-le c.args.mask.now)

pub loop-block-preserved : goal.loop-block-preserved
loop-block-preserved c =
    let steps = c.in-Some.ensures.steps in
    let block = c.in-Some.block.now in
    let rest = chunks_rest c.next.new.self in
    let parts = ap count_set steps.1.0 ∙ count-append block rest in
    (omega (arith, steps.0), omega (arith, parts, c.count_block.ensures))
