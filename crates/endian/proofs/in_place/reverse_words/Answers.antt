-- `endian::in_place::reverse_words`: the first cells are reversed, a line a turn and then one, by the laws for any size (Copying).
-- Assumes nothing.
use Prim.Native.Nat.{◌*◌, ◌/◌}
use native.Mathlib.Omega.{arith}
use lib.ListN.{length}
use Rattle.endian.proofs.Sizes.{word_line, word_block, lines_fit}
use Rattle.endian.proofs.Copying.{reversing_next, line_within, reversing_line}
use Rattle.endian.proofs.in_place.reverse_words.Goals as goal

pub loop-i-preserved : goal.loop-i-preserved
loop-i-preserved c =
    let a = c.args in (
      omega arith,
      reversing_line a.size.bytes (32 / a.size.bytes) (word_line a.size.bytes a.size.word) (word_block a.size.bytes a.size.word) (length a.bytes.now / a.size.bytes)
          c.loop-i.i (line_within a.size.bytes (32 / a.size.bytes) (word_line a.size.bytes a.size.word) (word_block a.size.bytes a.size.word) c.loop-i.i
          (length a.bytes.now / 64) (length a.bytes.now / a.size.bytes) (lines_fit a.size.bytes a.size.word (length a.bytes.now)) c.loop-i-test.true)
          c.loop-i.invariant.1 c.reverse_block.ensures c.reverse_block-in-loop-i.ensures,
    )

pub loop-j-preserved : goal.loop-j-preserved
loop-j-preserved c = λ d p. reversing_next (c.loop-j.invariant d p) c.loop-j-test.true (c.loop-j.j * c.args.size.bytes) (omega arith) c.reverse_word.ensures
