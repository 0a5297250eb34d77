-- Redundant by the laws once_marked and once_refused in merge_cover/proofs/Once.antt: marks of cells, 0 or 1 each, for the test of 12 (S3.7).
-- Assumes nothing.
use Rattle.std.specs.Prelude.{ℕ, Bool, List, [], ◌∷◌, get_or, set, replicate, eqb}
use Rattle.array.specs.Limits.{most_cells}
use Rattle.array.specs.Answer.{Answer, gives, unless}

-- no cell is marked
unfoldable pub unmarked : List ℕ
unmarked = replicate most_cells 0

-- the cells of the list are marked one after another: the marks, or refusal 12 where one is marked already
unfoldable pub marking : List ℕ → List ℕ → Answer (List ℕ)
marking m [] = gives m
marking m (j ∷ js) = unless (eqb (get_or m j 0) 0) 12 (marking (set m j 1) js)

-- as the code answers: after a refusal nothing is said of the marks
abbrev pub told_marks : Bool → List ℕ → Answer (List ℕ)
told_marks free m = unless free 12 (gives m)
