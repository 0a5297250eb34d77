-- `live_cells::Level::count_blocks` meets its contract: what is counted and what is live from the next block on make the whole count.
-- Assumes nothing.
use mathlib.Core.Path.{◌≡◌}
use Prim.Native.Nat.{ℕ, ◌+◌}
use lib.ListN.{length}
use Rattle.live_cells.specs.Live.{live_at, live_from}
use Rattle.live_cells.proofs.Level.count_blocks.Given as goal

abbrev pub invariant-loop-at : goal.invariant-loop-at
invariant-loop-at l =
    let all : ℕ = length (live_at l.self.cells l.self.masks.now l.self.depth) in
    l.n + length (live_from l.self.cells l.self.masks.now l.self.depth l.at) ≡ all
