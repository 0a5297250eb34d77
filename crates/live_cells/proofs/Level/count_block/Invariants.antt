-- `live_cells::Level::count_block` meets its contract: what is counted and what is live from i on make what is live from the start on, and no more is counted than passed.
-- Assumes nothing.
use mathlib.Core.Path.{◌≡◌}
use Prim.Native.Nat.{ℕ, ◌≤◌, ◌+◌, ◌-◌}
use lib.ListN.{length}
use Rattle.live_cells.specs.Live.{live_from}
use Rattle.live_cells.proofs.Level.count_block.Given as goal

abbrev pub invariant-loop-i : goal.invariant-loop-i
invariant-loop-i l =
    let left : ℕ → ℕ = λ k. length (live_from l.self.cells l.self.masks.now l.self.depth k) in
    (l.n ≤ l.i - l.start) × (l.n + left l.i ≡ left l.start)
