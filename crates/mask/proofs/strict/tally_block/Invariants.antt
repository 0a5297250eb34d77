-- `tally_block` meets its contract. The invariant, of each counter: what is counted and what is left of the block make the block's count, and no more is counted than passed.
-- Assumes nothing.
use mathlib.Core.Path.{◌≡◌}
use Prim.Native.Nat.{ℕ, ◌+◌, ◌≤◌}
use mathlib.Core.List.{List}
use lib.ListN.{drop}
use Rattle.array.specs.Others.{others}
use Rattle.codec.specs.Frame.{count_set}
use Rattle.mask.proofs.strict.tally_block.Given as goal

abbrev pub Counts : (List ℕ → ℕ) → List ℕ → ℕ → ℕ → Type 0
Counts all block i n = (n ≤ i) × (n + all (drop i block) ≡ all block)

abbrev pub invariant-loop-b : goal.invariant-loop-b
invariant-loop-b l = Counts count_set l.block l.b-index l.set × Counts others l.block l.b-index l.other
