-- `count_strict` meets its contract. The invariant: what is counted and what is left to count make the whole count, and no byte over 01 has passed.
-- Assumes nothing.
use mathlib.Core.Path.{◌≡◌, ap, ◌∙◌}
use Prim.Native.Nat.{◌<◌}
use native.Mathlib.Omega.{arith}
use lib.ListN.{length}
use Rattle.std.specs.Slice.Iter.{chunks_rest}
use Rattle.std.proofs.lemmas.List.{nil_from_length}
use Rattle.array.specs.Others.{others}
use Rattle.array.proofs.Marks.{no_others, some_others, others-append}
use Rattle.codec.specs.Mask.{byte_mask}
use Rattle.codec.specs.Frame.{count_set}
use Rattle.codec.proofs.Marks.{count-append, count-le}
use Rattle.mask.proofs.Said.{counted_passed, counted_failed}
use Rattle.mask.proofs.strict.count_strict.Goals as goal

pub returns-then-tally-gt0 : goal.returns-then-tally-gt0
returns-then-tally-gt0 c =
    let mask = c.args.mask.now in
    let block = c.in-Some.block.now in
    let rest = chunks_rest c.next.new.self in
    let parts = ap others c.in-Some.ensures.steps.1.0 ∙ others-append block rest in
    let some : 0 < others mask = omega (arith, parts, c.tally_block-tally.ensures.other) in
    counted_failed byte_mask mask (length mask) (some_others mask some)

pub overflow_add-n : goal.overflow_add-n
overflow_add-n c =
    let block = c.in-Some.block.now in
    let rest = chunks_rest c.next.new.self in
    let parts = ap count_set c.in-Some.ensures.steps.1.0 ∙ count-append block rest in
    omega (arith, parts, c.tally_block-tally.ensures.set, count-le c.args.mask.now)

pub loop-block-preserved : goal.loop-block-preserved
loop-block-preserved c =
    let steps = c.in-Some.ensures.steps in
    let block = c.in-Some.block.now in
    let rest = chunks_rest c.next.new.self in
    let set = ap count_set steps.1.0 ∙ count-append block rest in
    let other = ap others steps.1.0 ∙ others-append block rest in
    let tally = c.tally_block-tally.ensures in
    (omega (arith, steps.0), omega (arith, set, tally.set), omega (arith, other, tally.other))

pub returns : goal.returns
returns c =
    let mask = c.args.mask.now in
    let end = nil_from_length (chunks_rest c.loop-block.block-iterator) c.in-None.ensures.steps.1.0 in
    let none : others mask ≡ 0 = omega (arith, ap others end) in
    let all : c.loop-block.n ≡ count_set mask = omega (arith, ap count_set end) in
    counted_passed byte_mask mask (length mask) (no_others mask none) all
