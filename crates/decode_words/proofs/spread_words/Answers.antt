-- `spread_words` meets its contract, by the laws of SpreadingValues; the next word is at hand.
-- Assumes nothing.
use mathlib.Core.Path.{◌∙◌}
use Prim.Native.Nat.{◌+◌, ◌*◌}
use lib.ListN.{take, drop}
use Rattle.std.proofs.Common.{refl}
use Rattle.array.specs.Kind.{ordered}
use Rattle.array.specs.Meaning.{order_of, told_mark}
use Rattle.decode_words.proofs.SpreadingValues.{values_start, values_inside, values_cell, values_end, word_left, word_cell}
use Rattle.decode_words.proofs.spread_words.Goals as goal

pub loop-k-init : goal.loop-k-init
loop-k-init c = (values_start c.requires (order_of c.args.order), c.next_word-v.ensures)

pub loop-k-preserved : goal.loop-k-preserved
loop-k-preserved c =
    let args = c.args in
    let loop = c.loop-k in
    let size = args.size.bytes in
    let q = ordered (order_of args.order) (take size (drop (args.at + loop.k * size) args.s.now)) in
    let word_is = loop.invariant.1 ∙ word_left size (order_of args.order) args.s.now args.at loop.k args.cells c.loop-k-test.true in
    let mark = told_mark c.mark_of-mark.result in
    let inside = values_inside loop.invariant.0 c.loop-k-test.true in (
      rw c.skip-k.ensures
          (values_cell loop.invariant.0 inside mark c.mark_of-mark.ensures (word_cell size mark loop.v q c.if_set-w.ensures word_is) c.put_word.ensures),
      c.next_word-v-in-loop-k.ensures,
    )

pub returns : goal.returns
returns c = values_end c.loop-k.invariant.0 c.loop-k-test.false refl c.fill_bytes.ensures
