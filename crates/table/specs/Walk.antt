-- Redundant by the laws in_order and walk_counts in table/proofs/Walk.antt: walks over the cells as they lie (S13.5, S13.7).
-- Assumes nothing.
use Rattle.std.specs.Prelude.{ℕ, ◌+◌, ◌-◌, ◌≤◌, ◌≡◌, not, List, [], ◌∷◌, length, leb, ltb, eqb}
use Rattle.array.specs.Lists.{All, pick, passing}
use Rattle.table.specs.Table.{Table, start_of, length_of, ending, filled}
use Rattle.table.specs.Lying.{lying_by, moved_cells, packed}
use Rattle.table.specs.Order.{Follow}
use Rattle.table.specs.Meaning.{table_by}

-- js are the cells of t that have bytes, as they lie: none begins before the one before it ends, and all lie in the store
pub record InOrder (n : ℕ) (t : Table) (js : List ℕ) : Type 0 where
  pub lying : js ≡ lying_by (start_of t) (length_of t) (filled t n)
  pub follow : Follow (start_of t) (length_of t) 0 js
  pub ends : All (λ j. ending (start_of t) (length_of t) j ≤ length t.store) js

-- starts s and store b of n cells of the lengths l became s' and b' as r cells, at most so many, were packed, whatever the masks are
pub record Moved (most n : ℕ) (s l b : List ℕ) (r : ℕ) (s' b' : List ℕ) : Type 0 where
  pub counted : r ≡ length (moved_cells most n (table_by [] s l b))
  pub table : (m : List ℕ) → table_by m s' l b' ≡ packed most n (table_by m s l b)

-- how many of the cells js start elsewhere than right behind the bytes of those before them, of which there are `at`
abbrev pub elsewhere_by : (start len : ℕ → ℕ) → ℕ → List ℕ → ℕ
elsewhere_by start len at [] = 0
elsewhere_by start len at (j ∷ js) = pick (eqb (start j) at) 0 1 + elsewhere_by start len (at + len j) js

-- the cells js without cell c
abbrev pub without : ℕ → List ℕ → List ℕ
without c js = passing (λ j. not (eqb j c)) js

-- how many start elsewhere after a setting of so many bytes in a store of `room`: of the others so many do, they end at `top` and have `total` bytes.
-- Behind them the new bytes start elsewhere too, unless the others are packed; where too little remains all are packed first
abbrev pub unpacked_by : (there top total size room : ℕ) → ℕ
unpacked_by there top total size room = pick (ltb 0 size) (pick (leb size (room - top)) (there + pick (eqb top total) 0 1) 0) there
