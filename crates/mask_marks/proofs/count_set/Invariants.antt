-- `mask_marks::count_set` meets its contract. The invariant: what is counted and what is left to count make the whole count.
-- Assumes nothing.
use mathlib.Core.Path.{◌≡◌}
use Prim.Native.Nat.{◌+◌}
use Rattle.std.specs.Slice.Iter.{chunks_rest, chunks_size}
use Rattle.codec.specs.Frame.{count_set}
use Rattle.mask_marks.proofs.count_set.Given as goal

abbrev pub invariant-loop-block : goal.invariant-loop-block
invariant-loop-block l = (chunks_size l.block-iterator ≡ 240) × (l.n + count_set (chunks_rest l.block-iterator) ≡ count_set l.mask)
