-- `put_words` meets its contract, by the laws of Showing: a word a turn.
-- Assumes nothing.
use Rattle.shown_cells.proofs.Showing.{showing_begins, showing_ends, showing_cell, word_shown}
use Rattle.shown_cells.proofs.put_words.Goals as goal

pub loop-j-init : goal.loop-j-init
loop-j-init c = showing_begins c.requires

pub loop-j-preserved : goal.loop-j-preserved
loop-j-preserved c =
    let a = c.args in
    showing_cell c.loop-j.invariant c.loop-j-test.true
    (word_shown a.size.bytes a.values.now a.plane.now c.loop-j.j c.mark_of.ensures c.word_at-v.result c.if_set-w.ensures c.word_at-v.ensures)
    c.put_word.ensures

pub returns : goal.returns
returns c = showing_ends c.loop-j.invariant c.loop-j-test.false
