-- `live_cells::Level::run` meets its contract: the run from i is what was passed and the run from j.
-- Assumes nothing.
use mathlib.Core.Path.{◌≡◌}
use Prim.Native.Nat.{ℕ, ◌+◌, ◌-◌}
use Rattle.array.specs.Places.{shown_at}
use Rattle.live_cells.specs.Live.{run_of}
use Rattle.live_cells.proofs.Level.run.Given as goal

abbrev pub invariant-loop-j : goal.invariant-loop-j
invariant-loop-j l =
    let run : ℕ → ℕ = λ k. run_of (shown_at l.self.cells l.self.masks.now l.self.depth) k (l.self.cells - k) in
    run l.i ≡ (l.j - l.i) + run l.j
