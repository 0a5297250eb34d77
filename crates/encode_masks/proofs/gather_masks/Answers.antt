-- `encode_masks::gather_masks` meets its contract: by the laws of Blocks.
-- Assumes nothing.
use mathlib.Core.Path.{refl, ap}
use Prim.Native.Nat.{ℕ, ◌+◌}
use Rattle.encode_masks.proofs.Blocks.{picking_more}
use Rattle.encode_masks.proofs.gather_masks.Goals as goal

pub loop-done-preserved : goal.loop-done-preserved
loop-done-preserved c = picking_more c.loop-done.invariant c.loop-done-test.true refl (ap (λ (k : ℕ). c.loop-done.done + k) c.mark.ensures)
