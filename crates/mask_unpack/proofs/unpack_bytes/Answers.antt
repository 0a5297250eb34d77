-- `mask_unpack::unpack_bytes` meets its contract: numbers that are all 0 or all the greatest say null or set alone (Words).
-- Assumes nothing.
use native.Mathlib.Omega.{arith}
use Prim.Native.Nat.{◌/◌}
use Rattle.mask_unpack.proofs.Words.{words_are, null_words, set_words}
use Rattle.mask_unpack.proofs.unpack_bytes.Goals as goal

pub unpack_run-requires : goal.unpack_run-requires
unpack_run-requires c =
    let a = c.args in (
      c.requires.0,
      c.requires.1,
      omega arith,
      words_are a.s.now (λ i. (c.shared_slice_known-1.given i).fits) null_words (a.whole / 8) a.at (omega (arith, c.requires.1)) (c.all_words.ensures c.if-all_words.true),
    )

pub unpack_run-requires-then-all_words-2 : goal.unpack_run-requires-then-all_words-2
unpack_run-requires-then-all_words-2 c =
    let a = c.args in (
      c.requires.0,
      c.requires.1,
      omega arith,
      words_are a.s.now (λ i. (c.shared_slice_known-1.given i).fits) set_words (a.whole / 8) a.at (omega (arith, c.requires.1)) (c.all_words-2.ensures c.if-all_words-2.true),
    )
