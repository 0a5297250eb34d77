-- `encode_masks::put_live_mask` meets its contract: by the laws of Blocks.
-- Assumes nothing.
use mathlib.Core.Path.{◌≡◌}
use Prim.Native.Nat.{min}
use lib.ListN.{length}
use Rattle.array.specs.Meaning.{masks_of}
use Rattle.encode_masks.proofs.Blocks.{Blocks}
use Rattle.encode_masks.proofs.put_live_mask.Given as goal

abbrev pub invariant-loop-done : goal.invariant-loop-done
invariant-loop-done l =
    let level = l.live.level in
    (length l.block ≡ 256) × Blocks (masks_of l.form) level.cells level.masks.now level.depth l.initial.out l.to l.out l.i (min l.done l.live.count)
