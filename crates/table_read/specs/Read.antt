-- Redundant by the law read_is in table_read/proofs/Stages.antt: a table read out (S6.19) by its parts, and what copying its cells asks.
-- Assumes nothing.
use Rattle.std.specs.Prelude.{ℕ, ◌+◌, ◌≤◌, ◌<◌, ◌≡◌, List, map, length}
use Rattle.array.specs.Lists.{from, joined}
use Rattle.array.specs.Offsets.{offsets_of}
use Rattle.array.specs.Cells.{Value}
use Rattle.array.specs.Content.{Content}
use Rattle.array.specs.Places.{sum}
use Rattle.table.specs.Table.{Table, most_store, start_of, length_of, bytes_of}

-- the bytes of n cells
abbrev pub values_of : ℕ → Table → List Value
values_of n t = map (bytes_of t) (from 0 n)

-- the masks as they are, the values end to end
abbrev pub read_by : ℕ → Table → Content
read_by n t = record { masks = t.masks; values = joined (values_of n t); offsets = offsets_of (values_of n t) }

-- n cells that lie in the store
pub record InStore (n : ℕ) (t : Table) : Type 0 where
  pub starts_fit : length t.starts ≡ n
  pub lengths_fit : length t.lengths ≡ n
  pub placed : (j : ℕ) → j < n → start_of t j + length_of t j ≤ length t.store

-- with room for them in the outputs
pub record CellsAsked (n : ℕ) (t : Table) (values offsets : List ℕ) : Type 0 where
  pub cells : InStore n t
  pub for_values : sum t.lengths ≤ length values
  pub for_offsets : n + 1 ≤ length offsets

-- cells that all fit in the store at once, as those of a sound table do
pub record ReadAsked (n : ℕ) (t : Table) : Type 0 where
  pub cells : InStore n t
  pub total : sum t.lengths ≤ length t.store
  pub small : length t.store ≤ most_store
