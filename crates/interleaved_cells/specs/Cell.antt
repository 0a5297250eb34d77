-- Redundant by the law placing_cell in interleaved_cells/proofs/Placing.antt: what is copied with a cell (S5.1).
-- Its bytes, and as much of what lies behind them as is convenient and there is room for. Nothing of that is left: the next cells write over it.
-- Assumes nothing.
use Rattle.std.specs.Prelude.{ℕ, ◌≤◌, ◌≡◌, List, take}
use Rattle.array.specs.Buffers.{over_at}

-- a cell is the first k of s; it was copied to the place `to` of what was out
pub record Copied (k room : ℕ) (s : List ℕ) (to : ℕ) (out out' : List ℕ) : Type 0 where
  pub count : ℕ
  pub enough : k ≤ count
  pub fits : count ≤ room
  pub done : out' ≡ over_at to (take count s) out
