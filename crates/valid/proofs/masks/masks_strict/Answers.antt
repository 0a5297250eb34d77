-- `masks_strict` meets its contract. The invariant: no byte over 01 stands before the block at hand.
-- Assumes nothing.
use mathlib.Core.Path.{◌≡◌, sym, ap, ◌∙◌}
use Prim.Native.Nat.{◌<◌}
use native.Mathlib.Omega.{arith}
use Rattle.std.specs.Slice.Iter.{chunks_rest}
use Rattle.std.proofs.lemmas.List.{nil_from_length}
use Rattle.array.specs.Others.{others}
use Rattle.array.proofs.Marks.{no_others, some_others, others-append}
use Rattle.valid.proofs.masks.masks_strict.Goals as goal

pub returns-then-count_others-gt0 : goal.returns-then-count_others-gt0
returns-then-count_others-gt0 c =
    let masks = c.args.masks.now in
    let block = c.in-Some.block.now in
    let rest = chunks_rest c.next.new.self in
    let parts = ap others c.in-Some.ensures.steps.1.0 ∙ others-append block rest in
    let some : 0 < others masks = omega (arith, parts, c.count_others.ensures) in
    sym (some_others masks some)

pub loop-block-preserved : goal.loop-block-preserved
loop-block-preserved c =
    let steps = c.in-Some.ensures.steps in
    let block = c.in-Some.block.now in
    let rest = chunks_rest c.next.new.self in
    let parts = ap others steps.1.0 ∙ others-append block rest in
    (omega (arith, steps.0), omega (arith, parts, c.count_others.ensures))

pub returns : goal.returns
returns c =
    let masks = c.args.masks.now in
    let end = ap others (nil_from_length (chunks_rest c.loop-block.block-iterator) c.in-None.ensures.steps.1.0) in
    let none : others masks ≡ 0 = omega (arith, end) in
    sym (no_others masks none)
