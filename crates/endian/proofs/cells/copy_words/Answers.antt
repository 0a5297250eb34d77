-- `endian::cells::copy_words`: the first cells lie there, a line a turn and then one, by the laws for any size (Copying).
-- Assumes nothing.
use Prim.Native.Nat.{◌+◌, ◌*◌, ◌/◌, ◌≤◌}
use native.Mathlib.Nat.{div-mul-le_self}
use native.Mathlib.Omega.{arith}
use Rattle.endian.proofs.Sizes.{word_line, word_block}
use Rattle.endian.proofs.Copying.{copies_next, line_within, copies_line}
use Rattle.endian.proofs.cells.copy_words.Goals as goal

pub loop-i-preserved : goal.loop-i-preserved
loop-i-preserved c =
    let inside : let a = c.args in c.loop-i.i * (64 / a.size.bytes) + 32 / a.size.bytes + 32 / a.size.bytes ≤ a.cells = let a = c.args in
    line_within a.size.bytes (32 / a.size.bytes) (word_line a.size.bytes a.size.word) (word_block a.size.bytes a.size.word) c.loop-i.i (a.cells / (64 / a.size.bytes)) a.cells
    (div-mul-le_self a.cells (64 / a.size.bytes)) c.loop-i-test.true in
    let a = c.args in (
      omega arith,
      copies_line a.size.bytes (32 / a.size.bytes) (word_line a.size.bytes a.size.word) (word_block a.size.bytes a.size.word) a.cells
          c.loop-i.i inside c.loop-i.invariant.1 c.copy_block.ensures c.copy_block-in-loop-i.ensures,
    )

pub loop-j-preserved : goal.loop-j-preserved
loop-j-preserved c = λ d p. copies_next (c.loop-j.invariant d p) c.loop-j-test.true c.copy_word.ensures
