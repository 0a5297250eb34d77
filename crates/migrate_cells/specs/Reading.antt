-- Redundant by the law cells_begin in migrate_cells/proofs/Reading.antt: the cells of a stored chunk (S16.2), one after another.
-- Where the bytes of each lie, and which are left behind the first i of n.
-- Assumes nothing.
use Rattle.std.specs.Prelude.{◌≡◌, ℕ, ◌+◌, ◌-◌, ◌*◌, ◌≤◌, ◌<◌, List, ◌∷◌, length, take, drop}
use Rattle.array.specs.Answer.{gives}
use Rattle.array.specs.Lists.{from}
use Rattle.array.specs.Cells.{Value}
use Rattle.array.specs.Places.{Rises, values_at}
use Rattle.codec.specs.Interleaved.{interleaved_cells}
use Rattle.cut_ragged.specs.Source.{stored_at}
use Rattle.migrate.specs.Live.{Stored, older, newer}

abbrev pub bytes_of : Stored → List ℕ
bytes_of (older s) = s
bytes_of (newer s) = s

abbrev pub begins_at : Stored → ℕ → ℕ
begins_at (older s) n = 4
begins_at (newer s) n = 16 + n * 8

-- offset j of a moved chunk
abbrev pub offset_in : List ℕ → ℕ → ℕ
offset_in s = stored_at 8 s 8

-- vs are the values of the cells from i on, the first of which lies at `at`
pub record NewerLeft (n : ℕ) (s : List ℕ) (i at : ℕ) (vs : List Value) : Type 0 where
  pub room : 8 + (8 + n * 8) ≤ length s
  pub rises : Rises (offset_in s) n
  pub data_room : 16 + n * 8 + offset_in s n ≤ length s
  pub here : at ≡ 16 + n * 8 + offset_in s i
  pub are : vs ≡ values_at (offset_in s) (drop (16 + n * 8) s) (from i (n - i))

abbrev pub CellsLeft : Stored → ℕ → ℕ → ℕ → List Value → Type 0
CellsLeft (older s) n i at vs = interleaved_cells (n - i) (drop at s) ≡ gives vs
CellsLeft (newer s) n i at vs = NewerLeft n s i at vs

-- a cell is left
pub record MoreCells (c : Stored) (i at : ℕ) : Type 0 where
  pub count : ℕ
  pub values : List Value
  pub more : i < count
  pub left : CellsLeft c count i at values

-- the first of them, and those behind it
pub record NextCell (c : Stored) (n i begin size : ℕ) (vs : List Value) : Type 0 where
  pub others : List Value
  pub fits : begin + size ≤ length (bytes_of c)
  pub is : vs ≡ take size (drop begin (bytes_of c)) ∷ others
  pub left : CellsLeft c n (i + 1) (begin + size) others
