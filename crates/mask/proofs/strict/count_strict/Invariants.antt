-- `count_strict` meets its contract. The invariant: what is counted and what is left to count make the whole count, and no byte over 01 has passed.
-- Assumes nothing.
use mathlib.Core.Path.{◌≡◌}
use Prim.Native.Nat.{◌+◌}
use Rattle.std.specs.Slice.Iter.{chunks_rest, chunks_size}
use Rattle.array.specs.Others.{others}
use Rattle.codec.specs.Frame.{count_set}
use Rattle.mask.proofs.strict.count_strict.Given as goal

abbrev pub invariant-loop-block : goal.invariant-loop-block
invariant-loop-block l =
    let left = chunks_rest l.block-iterator in
    (chunks_size l.block-iterator ≡ 240) × (l.n + count_set left ≡ count_set l.mask) × (others left ≡ others l.mask)
