-- Redundant by the law moved_on in migrate_step/proofs/Stages.antt: an old string written anew (S16.6), by what stands in it.
-- Assumes nothing.
use Rattle.std.specs.Prelude.{ℕ, ◌+◌, ◌≤◌, List, length, take, leb}
use Rattle.array.specs.Answer.{Answer, gives, refuses, map_answer, Outcome}
use Rattle.array.specs.Bytes.{unle}
use Rattle.array.specs.Cells.{Value}
use Rattle.array.specs.Buffers.{if_room, over_at}
use Rattle.decode_interleaved.specs.Walk.{found, Walked}

-- the count that it begins with, and its cells
abbrev pub count_of : List ℕ → ℕ
count_of s = unle (take 4 s)

abbrev pub cells_of : List ℕ → List Value
cells_of s = found (count_of s) s

-- it holds as many cells, of so many value bytes
pub record Counted (s : List ℕ) (sum : ℕ) : Type 0 where
  pub long : 4 ≤ length s
  pub cells : Walked (count_of s) s sum

-- a string from `at` on, where there is room for it
abbrev pub area_after : ℕ → Answer (List ℕ) → List ℕ → List ℕ
area_after at (gives s) area = over_at at s area
area_after at (refuses k) area = area

abbrev pub laid_at : ℕ → List ℕ → List ℕ → Outcome ℕ (List ℕ)
laid_at at s area =
    let laid = if_room (leb (at + length s) (length area)) s in
    record { answer = map_answer length laid; buffers = area_after at laid area }
