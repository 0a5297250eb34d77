-- docs/SPEC.md, S13.5 to S13.7: how the cells lie in the store, and what packing moves where.
-- Assumes nothing.
use Rattle.std.specs.Prelude.{ℕ, max, not, List, [], ◌∷◌, map, take, set, leb, ltb, eqb}
use Rattle.array.specs.Lists.{pick, passing}
use Rattle.array.specs.Buffers.{over_at}
use Rattle.array.specs.Places.{sum}
use Rattle.table.specs.Table.{Table, start_of, length_of, bytes_of, ending, filled}

module _ (start len : ℕ → ℕ) where
  -- a cell put among others, before the first that starts no lower; cells in the order in which they lie
  abbrev pub put_among : ℕ → List ℕ → List ℕ
  put_among j [] = j ∷ []
  put_among j (i ∷ is) = pick (leb (start j) (start i)) (j ∷ i ∷ is) (i ∷ put_among j is)

  abbrev pub lying_by : List ℕ → List ℕ
  lying_by [] = []
  lying_by (j ∷ js) = put_among j (lying_by js)

  -- the packed start of cell j: how many bytes the cells js that lie lower have
  abbrev pub packed_at : List ℕ → ℕ → ℕ
  packed_at js j = sum (map len (passing (λ i. ltb (start i) (start j)) js))

  -- the cells that start elsewhere, as they lie
  abbrev pub displaced_by : List ℕ → List ℕ
  displaced_by js = passing (λ j. not (eqb (start j) (packed_at js j))) (lying_by js)

  -- where the last of the cells js ends: as no two overlap, it is the one that lies highest
  abbrev pub top_by : List ℕ → ℕ
  top_by [] = 0
  top_by (j ∷ js) = max (ending start len j) (top_by js)

abbrev pub packed_start : Table → ℕ → ℕ → ℕ
packed_start t n j = packed_at (start_of t) (length_of t) (filled t n) j

abbrev pub displaced : Table → ℕ → List ℕ
displaced t n = displaced_by (start_of t) (length_of t) (filled t n)

abbrev pub top_of : Table → ℕ → ℕ
top_of t n = top_by (start_of t) (length_of t) (filled t n)

-- cell j copied to place p: nothing is cleared
abbrev pub move_to : ℕ → ℕ → Table → Table
move_to p j t = record { masks = t.masks; starts = set t.starts j p; lengths = t.lengths; store = over_at p (bytes_of t j) t.store }

-- cells moved one after another, cell j to the place to j
abbrev pub move_all : (ℕ → ℕ) → List ℕ → Table → Table
move_all to [] t = t
move_all to (j ∷ js) t = move_all to js (move_to (to j) j t)

-- the lowest-lying k of those that start elsewhere, each moved to its packed start
abbrev pub moved_cells : ℕ → ℕ → Table → List ℕ
moved_cells k n t = take k (displaced t n)

unfoldable pub packed : ℕ → ℕ → Table → Table
packed k n t = move_all (packed_start t n) (moved_cells k n t) t

-- all of them
unfoldable pub packed_whole : ℕ → Table → Table
packed_whole n t = move_all (packed_start t n) (displaced t n) t
