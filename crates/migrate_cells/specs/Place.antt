-- Redundant by the law cut_is in migrate_extract/proofs/Cut.antt: the place of a cell among the cells of a cut (S16.5);
-- subsets that do not meet by the law apart_none in migrate_cells/proofs/Meeting.antt.
-- Assumes nothing.
use Rattle.std.specs.Prelude.{ℕ, ◌+◌, Bool, false, ◌||◌, List, [], ◌∷◌, leb, eqb, Option, None, Some}
use Rattle.array.specs.Lists.{pick}
use Rattle.array.specs.Subset.{Subset}

-- a place that is so many further, if there is one
abbrev pub later : ℕ → Option ℕ → Option ℕ
later k None = None
later k (Some p) = Some (k + p)

-- the first place of a number in a list
abbrev pub place_in : List ℕ → ℕ → Option ℕ
place_in [] j = None
place_in (i ∷ is) j = pick (eqb j i) (Some 0) (later 1 (place_in is j))

-- whether two subsets do not meet: on some side one ends before the other begins
abbrev pub apart_test : Subset → Subset → Bool
apart_test [] bs = false
apart_test (a ∷ as') [] = false
apart_test (a ∷ as') (b ∷ bs) = leb (a.0 + a.1) b.0 || leb (b.0 + b.1) a.0 || apart_test as' bs
