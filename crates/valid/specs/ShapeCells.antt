-- Redundant by the laws counted and not_counted in valid/proofs/ShapeLaws.antt: the cells of a shape (S1.3), counted, or refusal 2.
-- Assumes nothing.
use Rattle.std.specs.Prelude.{ℕ, List}
use Rattle.array.specs.Answer.{Answer, gives, unless}
use Rattle.array.specs.Shape.{volume, shape_test}

unfoldable pub shape_answer : List ℕ → Answer ℕ
shape_answer shape = unless (shape_test shape) 2 (gives (volume shape))
