-- docs/SPEC.md, S1.4, S3.1 to S3.3: subsets, a start and a length for each side of a shape, and their cells.
-- Assumes nothing.
use Rattle.std.specs.Prelude.{ℕ, ◌+◌, ◌*◌, ◌/◌, ◌%◌, ◌≤◌, ◌≡◌, Bool, true, false, ◌&&◌, List, [], ◌∷◌, ◌++◌, map, length, take, drop, leb, ltb, eqb}
use Rattle.array.specs.Lists.{from, pieces, All, every}
use Rattle.array.specs.Shape.{volume}

abbrev pub Subset : Type 0
Subset = List (ℕ × ℕ)

abbrev pub lengths : Subset → List ℕ
lengths [] = []
lengths (b ∷ bs) = b.1 ∷ lengths bs

-- ---- as the calls take them: all starts, then all lengths

abbrev pub pairs : List ℕ → List ℕ → Subset
pairs [] ls = []
pairs (a ∷ starts) [] = []
pairs (a ∷ starts) (l ∷ ls) = (a, l) ∷ pairs starts ls

-- the subset of a shape of r sides that the numbers say
abbrev pub subset_of : ℕ → List ℕ → Subset
subset_of r ns = pairs (take r ns) (drop r ns)

-- a list of subsets, their numbers laid end to end
abbrev pub subsets_of : ℕ → List ℕ → List Subset
subsets_of r ns = map (subset_of r) (pieces (2 * r) (length ns / (2 * r)) ns)

-- ---- the rules for a subset of a shape, and the test of them: refusal 3

-- start + length is at most the side, and there is one of each a side
abbrev pub SubsetOk : List ℕ → Subset → Type 0
SubsetOk [] [] = Unit {0}
SubsetOk [] (b ∷ bs) = ⊥
SubsetOk (s ∷ ss) [] = ⊥
SubsetOk (s ∷ ss) (b ∷ bs) = (b.0 + b.1 ≤ s) × SubsetOk ss bs

abbrev pub subset_test : List ℕ → Subset → Bool
subset_test [] [] = true
subset_test [] (b ∷ bs) = false
subset_test (s ∷ ss) [] = false
subset_test (s ∷ ss) (b ∷ bs) = leb (b.0 + b.1) s && subset_test ss bs

-- a subset that holds a cell, as a merge asks
pub record FullOk (shape : List ℕ) (b : Subset) : Type 0 where
  pub fits : SubsetOk shape b
  pub full : All (λ n. 1 ≤ n) (lengths b)

abbrev pub full_test : List ℕ → Subset → Bool
full_test shape b = subset_test shape b && every (leb 1) (lengths b)

-- numbers that are one start and one length a side, and within the shape
pub record NumbersOk (shape ns : List ℕ) : Type 0 where
  pub counted : length ns ≡ 2 * length shape
  pub fits : SubsetOk shape (subset_of (length shape) ns)

abbrev pub numbers_test : List ℕ → List ℕ → Bool
numbers_test shape ns = eqb (length ns) (2 * length shape) && subset_test shape (subset_of (length shape) ns)

-- numbers that are any count of subsets that each hold a cell
pub record ManyOk (shape ns : List ℕ) : Type 0 where
  pub counted : length ns % (2 * length shape) ≡ 0
  pub each : All (FullOk shape) (subsets_of (length shape) ns)

abbrev pub many_test : List ℕ → List ℕ → Bool
many_test shape ns = eqb (length ns % (2 * length shape)) 0 && every (full_test shape) (subsets_of (length shape) ns)

-- ---- the cells of a subset, in row order, the last side fastest

-- row i of a side: each number of the list, i rows of v cells further
abbrev pub rows : ℕ → List ℕ → List ℕ → List ℕ
rows v [] js = []
rows v (i ∷ is) js = map (λ j. i * v + j) js ++ rows v is js

abbrev pub cells_in : List ℕ → Subset → List ℕ
cells_in [] bs = 0 ∷ []
cells_in (s ∷ ss) [] = []
cells_in (s ∷ ss) (b ∷ bs) = rows (volume ss) (from b.0 b.1) (cells_in ss bs)

-- the cells of all subsets, in the list's order
abbrev pub cells_of_all : List ℕ → List Subset → List ℕ
cells_of_all shape [] = []
cells_of_all shape (b ∷ bs) = cells_in shape b ++ cells_of_all shape bs

-- ---- what these cells are: those whose coordinates lie in the subset (proofs/Geometry)

-- the coordinates of cell i, one a side
abbrev pub coordinates : List ℕ → ℕ → List ℕ
coordinates [] i = []
coordinates (s ∷ ss) i = i / volume ss ∷ coordinates ss (i % volume ss)

-- each coordinate is at least the start and below start + length
abbrev pub inside_test : Subset → List ℕ → Bool
inside_test [] [] = true
inside_test [] (x ∷ xs) = false
inside_test (b ∷ bs) [] = false
inside_test (b ∷ bs) (x ∷ xs) = leb b.0 x && ltb x (b.0 + b.1) && inside_test bs xs
