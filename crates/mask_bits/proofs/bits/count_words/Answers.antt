-- `mask_bits::bits::count_words` meets its contract. The invariant: what is counted and the set bits of what is left make those of all bytes.
-- Assumes nothing.
use mathlib.Core.Path.{ap, ◌∙◌}
use native.Mathlib.Omega.{arith}
use lib.Count.{ones}
use lib.ListN.{length, length-append}
use Rattle.std.specs.Slice.Iter.{chunks_exact_rest}
use Rattle.mask_bits.proofs.Ones.{word_next}
use Rattle.mask_bits.proofs.bits.count_words.Goals as goal

pub overflow_add-set : goal.overflow_add-set
overflow_add-set c =
    let left = chunks_exact_rest c.loop-word.word-iterator in
    let rest = chunks_exact_rest c.next.new.self in
    let inv = c.loop-word.invariant in
    let steps = c.in-Some.ensures.steps.1 in
    let next = word_next left c.in-Some.word.now rest steps.0 (omega (arith, inv.0, steps.1)) inv.2 in
    omega (arith, ap ones c.le8_at.ensures, next.0, c.requires.1)

pub loop-word-preserved : goal.loop-word-preserved
loop-word-preserved c =
    let left = chunks_exact_rest c.loop-word.word-iterator in
    let rest = chunks_exact_rest c.next.new.self in
    let inv = c.loop-word.invariant in
    let steps = c.in-Some.ensures.steps.1 in
    let next = word_next left c.in-Some.word.now rest steps.0 (omega (arith, inv.0, steps.1)) inv.2 in
    let sizes = ap length steps.0 ∙ length-append c.in-Some.word.now rest in
    (omega (arith, inv.0, c.in-Some.ensures.steps.0), omega (arith, inv.0, sizes, steps.1), next.1, omega (arith, ap ones c.le8_at.ensures, next.0))
