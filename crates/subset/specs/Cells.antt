-- Redundant by the laws asked_left and row_is in subset/proofs/Rows.antt: the cells of a subset, and what a step along its rows gives;
-- a step along a list of subsets by the law split_first in subset/proofs/Subsets.antt.
-- Assumes nothing.
use Rattle.std.specs.Prelude.{◌≡◌, ℕ, ◌+◌, ◌≤◌, List, [], ◌∷◌, length, Option, None, Some}
use Rattle.array.specs.Subset.{Subset, pairs, subsets_of, cells_in, cells_of_all}
use Rattle.subset.specs.Walk.{row_of, Left, RowAt}
use Rattle.subset.specs.declared.walk.Subset as walked
use Rattle.subset.specs.declared.walk.Subsets.{Subsets}
use Rattle.subset.specs.declared.walk.Row.{Row}
use Rattle.subset.specs.declared.walk.Rows.{Rows}
use Rattle.subset.specs.declared.walk.Parts.{Parts}

-- its cells in row order
abbrev pub cells_of : walked.Subset → List ℕ
cells_of s = cells_in s.shape.now (pairs s.starts.now s.lens.now)

-- the subsets of a list, and their cells one after another
abbrev pub subsets_in : Subsets → List Subset
subsets_in s = subsets_of (length s.shape.now) s.numbers.now

abbrev pub cells_of_each : Subsets → List ℕ
cells_of_each s = cells_of_all s.shape.now (subsets_in s)

-- the rows from the iterator's place on are left
abbrev pub RowsLeft : Rows → Type 0
RowsLeft r = Left (cells_of r.subset) r.subset.count (row_of r.subset.lens.now) r.at

-- the row at the iterator's place is given, or none is left
abbrev pub GivesRow : Rows → Option Row → Rows → Type 0
GivesRow old None new = old.subset.count ≤ old.at
GivesRow old (Some row) new = RowAt old.subset.shape.now old.subset.lens.now (cells_of old.subset) old.subset.count old.at row.first row.cells
    × (row.at ≡ old.at) × (new.subset ≡ old.subset) × (new.at ≡ old.at + row.cells)

-- the first subset that is left is given, or none is left
abbrev pub GivesPart : Parts → Option walked.Subset → Parts → Type 0
GivesPart old None new = subsets_in old.left ≡ []
GivesPart old (Some s) new = (subsets_in old.left ≡ pairs s.starts.now s.lens.now ∷ subsets_of (length old.left.shape.now) new.left.numbers.now)
    × (s.shape.now ≡ old.left.shape.now) × (new.left.shape.now ≡ old.left.shape.now)
