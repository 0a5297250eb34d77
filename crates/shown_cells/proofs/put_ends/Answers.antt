-- `put_ends` meets its contract, by the laws of Showing and Ends: two words a turn.
-- Assumes nothing.
use native.Mathlib.Omega.{arith}
use Rattle.shown_cells.proofs.Showing.{showing_begins, showing_ends}
use Rattle.shown_cells.proofs.Ends.{showing_words}
use Rattle.shown_cells.proofs.put_ends.Goals as goal

pub loop-j-init : goal.loop-j-init
loop-j-init c = showing_begins c.requires.0

pub loop-j-preserved : goal.loop-j-preserved
loop-j-preserved c =
    showing_words c.loop-j.invariant c.loop-j-test.true c.mark_of-mark.ensures c.args.word.bytes (omega (arith, c.requires.1)) (omega (arith, c.requires.2))
    c.word_at-x.result c.word_at-y.result c.word_at-x.ensures c.word_at-y.ensures c.if_set-first.ensures c.if_set-last.ensures
    c.put_word.ensures c.put_word-in-loop-j.ensures

pub returns : goal.returns
returns c = showing_ends c.loop-j.invariant c.loop-j-test.false
