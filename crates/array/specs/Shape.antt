-- docs/SPEC.md, S1.3: shapes. 1 to 4 sides, each at least 1, at most 65,536 cells.
-- Assumes nothing.
use Rattle.std.specs.Prelude.{ℕ, ◌*◌, ◌≤◌, Bool, ◌&&◌, List, [], ◌∷◌, length, leb}
use Rattle.array.specs.Limits.{most_cells, most_sides}
use Rattle.array.specs.Lists.{All, every}

-- how many cells a shape has
abbrev pub volume : List ℕ → ℕ
volume [] = 1
volume (s ∷ ss) = s * volume ss

-- the rules for a shape, and the test of them: refusal 2
pub record ShapeOk (shape : List ℕ) : Type 0 where
  pub some_sides : 1 ≤ length shape
  pub few_sides : length shape ≤ most_sides
  pub sides : All (λ s. 1 ≤ s) shape
  pub few_cells : volume shape ≤ most_cells

abbrev pub shape_test : List ℕ → Bool
shape_test shape = leb 1 (length shape) && leb (length shape) most_sides && every (leb 1) shape && leb (volume shape) most_cells
