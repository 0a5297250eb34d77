-- Redundant by the laws no_others and some_others in array/proofs/Marks.antt: how many mask bytes are over 01 (S1.11), what a walk counts.
-- Assumes nothing.
use Rattle.std.specs.Prelude.{ℕ, ◌+◌, List, [], ◌∷◌}
use Rattle.array.specs.Cells.{Mark, is_null, is_set, is_other, mark_of}

abbrev pub other_by : Mark → ℕ
other_by is_null = 0
other_by is_set = 0
other_by is_other = 1

abbrev pub others : List ℕ → ℕ
others [] = 0
others (m ∷ ms) = other_by (mark_of m) + others ms
