-- Redundant by the law ends_by_lem in decode_ragged/proofs/RaggedLaws.antt: where the cells of a plane end (S4.8, S4.9).
-- Assumes nothing.
use Rattle.std.specs.Prelude.{ℕ, ◌+◌, ◌*◌, ◌≤◌, ◌≡◌, List, [], ◌∷◌, length, take, drop}
use Rattle.array.specs.Bytes.{unle}
use Rattle.array.specs.Offsets.{last_from}
use Rattle.array.specs.Cells.{mark_of}
use Rattle.codec.specs.Frame.{next_by, left_by}
use Rattle.stored_index.specs.Index.{offsets_in}

-- a set cell of the plane takes the next stored end, and any other ends at t, where the one before does
abbrev pub ends_by : ℕ → List ℕ → List ℕ → List ℕ
ends_by t [] os = []
ends_by t (m ∷ p) os = next_by (mark_of m) t os ∷ ends_by (next_by (mark_of m) t os) p (left_by (mark_of m) os)

-- the offsets of `cells` cells are stored from `at` on: the first is 0, and the last is known
pub record EndsStored (w : ℕ) (s : List ℕ) (at cells last : ℕ) : Type 0 where
  pub room : at + cells * w ≤ length s
  pub first_is : 1 ≤ cells → unle (take w (drop at s)) ≡ 0
  pub last_is : last ≡ last_from 0 (offsets_in w cells (drop (at + w) s))
