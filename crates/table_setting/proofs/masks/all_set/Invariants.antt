-- `masks::all_set` meets its contract: what is shown so far, level by level.
-- Assumes nothing.
use Prim.Native.Nat.{◌≤◌}
use mathlib.Core.Path.{◌≡◌}
use lib.ListN.{length, get_or}
use Rattle.array.specs.Places.{shown_by}
use Rattle.table_setting.proofs.masks.all_set.Given as goal

abbrev pub invariant-loop-b : goal.invariant-loop-b
invariant-loop-b at = (at.b-index ≤ length at.cell_masks) × (at.shown ≡ shown_by (λ l. get_or at.cell_masks l 0) at.b-index)
