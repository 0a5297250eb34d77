-- Redundant by the laws all_decoded and not_read in decode_interleaved/proofs/Outcomes.antt: the steps of decode_interleaved (S6.4).
-- The walk over the stored cells, what it tells of a string, and what becomes of the cells that it found.
-- Assumes nothing.
use Rattle.std.specs.Prelude.{ℕ, ◌≤◌, ◌≡◌, List, [], length, drop}
use Rattle.array.specs.Answer.{Answer, gives, refuses, map_answer}
use Rattle.array.specs.Limits.{most_bytes, most_cells}
use Rattle.array.specs.Lists.{joined}
use Rattle.array.specs.Cells.{Value}
use Rattle.array.specs.Content.{RaggedContent, end_to_end}
use Rattle.array.specs.declared.answer.RaggedLengths.{RaggedLengths}
use Rattle.array.specs.Buffers.{ragged_enough_test, if_room}
use Rattle.codec.specs.Interleaved.{interleaved_cells, interleaved_values}

-- the cells behind the count field
abbrev pub stored_cells : ℕ → List ℕ → Answer (List Value)
stored_cells n s = interleaved_cells n (drop 4 s)

-- how many value bytes the cells have
abbrev pub total_of : List Value → ℕ
total_of vs = length (joined vs)

-- the walk tells so much of them, or the refusal
abbrev pub walk_answer : ℕ → List ℕ → Answer ℕ
walk_answer n s = map_answer total_of (stored_cells n s)

-- and the whole reader, or its refusal
abbrev pub read_answer : ℕ → List ℕ → Answer ℕ
read_answer n s = map_answer total_of (interleaved_values n s)

-- the cells, where the walk refused nothing
abbrev pub given : Answer (List Value) → List Value
given (gives vs) = vs
given (refuses e) = []

abbrev pub found : ℕ → List ℕ → List Value
found n s = given (stored_cells n s)

abbrev pub Found : ℕ → List ℕ → Type 0
Found n s = stored_cells n s ≡ gives (found n s)

-- few cells, and so many value bytes, few of them too
pub record Walked (n : ℕ) (s : List ℕ) (sum : ℕ) : Type 0 where
  pub few : n ≤ most_cells
  pub all : Found n s
  pub total : sum ≡ total_of (found n s)
  pub small : sum ≤ most_bytes

-- what becomes of the cells: 6, or they are given
abbrev pub found_answer : List Value → RaggedLengths → Answer RaggedContent
found_answer vs room = if_room (ragged_enough_test (end_to_end vs) room) (end_to_end vs)
