-- Redundant by the law ragged_writes in encode_values/proofs/Forms.antt: ragged values of the cells that a level counts (S4.9).
-- Assumes nothing.
use Rattle.std.specs.Prelude.{ℕ, List}
use Rattle.array.specs.Cells.{Value}
use Rattle.array.specs.Places.{bytes_at, ends_at, offset_at, values_at}
use Rattle.live_cells.specs.Levels.{live_in}
use Rattle.encode_data.specs.declared.LiveOffsets.{LiveOffsets}
use Rattle.encode_data.specs.declared.LiveValues.{LiveValues}

-- how many value bytes they have
abbrev pub live_bytes : LiveOffsets → ℕ
live_bytes p = bytes_at (offset_at p.offsets.now) (live_in p.live.level)

-- where they end, when they lie end to end from 0
abbrev pub live_ends : LiveOffsets → List ℕ
live_ends p = ends_at (offset_at p.offsets.now) 0 (live_in p.live.level)

-- the values
abbrev pub live_values : LiveValues → List Value
live_values v = values_at (offset_at v.places.offsets.now) v.values.now (live_in v.places.live.level)
