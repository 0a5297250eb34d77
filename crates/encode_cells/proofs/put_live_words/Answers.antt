-- `encode_cells::put_live_words` meets its contract: by the laws of Packing.
-- Assumes nothing.
use mathlib.Core.Path.{sym, ap, ◌∙◌}
use Prim.Native.Nat.{ℕ, ◌<◌, ◌+◌, ◌*◌}
use native.Mathlib.Nat.{zero-add}
use native.Mathlib.Omega.{arith}
use lib.ListN.{length}
use Rattle.array.specs.Kind.{ordered}
use Rattle.array.specs.Meaning.{order_of}
use Rattle.array.proofs.Places.{fixed_value}
use Rattle.live_cells.specs.Levels.{live_in}
use Rattle.encode_cells.proofs.Placing.{laid_as}
use Rattle.encode_cells.proofs.Gathering.{ordered-put, ordered-sized}
use Rattle.encode_cells.proofs.Packing.{packing_begins, packing_room, packing_more, packing_ends}
use Rattle.encode_cells.proofs.put_live_words.Goals as goal

pub loop-done-init : goal.loop-done-init
loop-done-init c =
    let a = c.args in
    let put = ordered-put (order_of a.order) a.size.bytes a.s.now (live_in a.live.level) in
    packing_begins (ordered-sized (order_of a.order) a.size.bytes a.s.now c.requires.0) (omega (arith, c.requires.1, ap length put))

pub put_word-requires : goal.put_word-requires
put_word-requires c =
    let live = c.args.live in
    let more : c.loop-done.done < length (live_in live.level) = omega (arith, c.loop-done-test.true, live.counted) in
    packing_room c.loop-done.invariant more

pub loop-done-preserved : goal.loop-done-preserved
loop-done-preserved c =
    let a = c.args in
    let more : c.loop-done.done < length (live_in a.live.level) = omega (arith, c.loop-done-test.true, a.live.counted) in
    let piece = fixed_value 0 a.size.bytes a.s.now c.loop-done.i (zero-add (c.loop-done.i * a.size.bytes)) in
    packing_more c.loop-done.invariant more
    (laid_as (a.to + c.loop-done.done * a.size.bytes) c.loop-done.out c.put_word.ensures (c.word_at-v.ensures ∙ ap (ordered (order_of a.order)) (sym piece)))
    (ap (λ (m : ℕ). c.loop-done.done + m) c.mark.ensures)

pub returns : goal.returns
returns c =
    let a = c.args in
    laid_as a.to a.out.now (packing_ends c.loop-done.invariant (omega (arith, c.loop-done-test.false, a.live.counted)))
    (ordered-put (order_of a.order) a.size.bytes a.s.now (live_in a.live.level))
