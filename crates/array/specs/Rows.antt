-- Redundant by the law within_numbers in array/proofs/SubsetLists.antt: what a walk over a subset's rows asks of its numbers.
-- That their products are small: few_shape in subset/proofs/Index.antt.
-- Assumes nothing.
use Rattle.std.specs.Prelude.{◌≡◌, ℕ, ◌≤◌, List, [], ◌∷◌, length}
use Rattle.array.specs.Limits.{most_cells}
use Rattle.array.specs.Shape.{volume}
use Rattle.array.specs.Subset.{pairs, SubsetOk}

-- one start and one length for each side, and within it; the subset may be empty
pub record Within (shape starts lens : List ℕ) : Type 0 where
  pub as_many_starts : length starts ≡ length shape
  pub as_many_lengths : length lens ≡ length shape
  pub inside : SubsetOk shape (pairs starts lens)

-- the sides from each one on have at most 65,536 cells, so that their product never wraps; a side may be 0
abbrev pub FewCells : List ℕ → Type 0
FewCells [] = Unit {0}
FewCells (s ∷ ss) = (volume (s ∷ ss) ≤ most_cells) × FewCells ss
