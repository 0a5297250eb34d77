-- Redundant by the contract of `live_cells::mark`, live_cells/src/lib.rt: the cells that a level counts, by the level itself.
-- Assumes nothing.
use Rattle.std.specs.Prelude.{ℕ, Bool, List}
use Rattle.array.specs.Places.{shown_at}
use Rattle.live_cells.specs.Live.{live_at}
use Rattle.live_cells.specs.declared.Level.{Level}

-- whether the level counts cell i
abbrev pub shown_in : Level → ℕ → Bool
shown_in l = shown_at l.cells l.masks.now l.depth

-- the cells that it counts
abbrev pub live_in : Level → List ℕ
live_in l = live_at l.cells l.masks.now l.depth
