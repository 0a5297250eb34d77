-- `spread_pairs` meets its contract, by the laws of SpreadingValues and PairLaws; the next two words are at hand.
-- Assumes nothing.
use Prim.Native.Nat.{◌+◌, ◌*◌}
use lib.ListN.{take, drop}
use Rattle.std.proofs.Common.{refl}
use Rattle.array.specs.Kind.{ordered}
use Rattle.array.specs.Meaning.{order_of, told_mark}
use Rattle.decode_words.proofs.SpreadingValues.{values_start, values_inside, values_cell, values_end}
use Rattle.decode_cells.proofs.PairLaws.{pair_is, pair_cell}
use Rattle.decode_cells.proofs.pairs.spread_pairs.Goals as goal

pub loop-k-init : goal.loop-k-init
loop-k-init c = (values_start c.requires (order_of c.args.order), c.pair_word-v.ensures, c.pair_word-u.ensures)

pub loop-k-preserved : goal.loop-k-preserved
loop-k-preserved c =
    let args = c.args in
    let loop = c.loop-k in
    let q = ordered (order_of args.order) (take 16 (drop (args.at + loop.k * 16) args.s.now)) in
    let mark = told_mark c.mark_of-mark.result in
    let inside = values_inside loop.invariant.0 c.loop-k-test.true in
    let is = pair_is args.s.now args.at loop.k args.cells c.loop-k-test.true (order_of args.order) c.first_word-a.ensures loop.v
    loop.u loop.invariant.1 loop.invariant.2 in (
      rw c.skip-k.ensures
          (values_cell loop.invariant.0 inside mark c.mark_of-mark.ensures (pair_cell mark loop.v loop.u c.if_set-x.ensures c.if_set-y.ensures is)
          c.put_pair.ensures),
      c.pair_word-v-in-loop-k.ensures,
      c.pair_word-u-in-loop-k.ensures,
    )

pub returns : goal.returns
returns c = values_end c.loop-k.invariant.0 c.loop-k-test.false refl c.fill_bytes.ensures
