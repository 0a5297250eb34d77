-- `masks_strict` meets its contract. The invariant: no byte over 01 stands before the block at hand.
-- Assumes nothing.
use mathlib.Core.Path.{◌≡◌}
use Rattle.std.specs.Slice.Iter.{chunks_rest, chunks_size}
use Rattle.array.specs.Others.{others}
use Rattle.valid.proofs.masks.masks_strict.Given as goal

abbrev pub invariant-loop-block : goal.invariant-loop-block
invariant-loop-block l = (chunks_size l.block-iterator ≡ 240) × (others (chunks_rest l.block-iterator) ≡ others l.masks)
