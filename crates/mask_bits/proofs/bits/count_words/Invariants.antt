-- `mask_bits::bits::count_words` meets its contract. The invariant: what is counted and the set bits of what is left make those of all bytes.
-- Assumes nothing.
use mathlib.Core.Path.{◌≡◌}
use Prim.Native.Nat.{◌+◌, ◌%◌}
use lib.ListN.{length}
use Rattle.std.specs.Slice.Iter.{chunks_exact_rest, chunks_exact_size}
use Rattle.array.specs.Bytes.{AllBytes}
use Rattle.mask_bits.specs.Bits.{bits_in}
use Rattle.mask_bits.proofs.bits.count_words.Given as goal

abbrev pub invariant-loop-word : goal.invariant-loop-word
invariant-loop-word l =
    let left = chunks_exact_rest l.word-iterator in
    (chunks_exact_size l.word-iterator ≡ 8) × (length left % 8 ≡ 0) × AllBytes left × (l.set + bits_in left ≡ bits_in l.bytes)
