-- Redundant by the laws roomy_left and put_is in table_place/proofs/Places.antt: bytes put into the store (S13.9), whatever the masks are.
-- Assumes nothing.
use Rattle.std.specs.Prelude.{ℕ, ◌≡◌, List, []}
use Rattle.array.specs.Cells.{Value}
use Rattle.table.specs.Lying.{top_of}
use Rattle.table.specs.Setting.{roomy_for, bytes_put}
use Rattle.table.specs.Meaning.{table_by}

-- starts s and store b of n cells of the lengths l became s' and b', and so many bytes go to the place r
pub record Roomy (size n : ℕ) (s l b : List ℕ) (r : ℕ) (s' b' : List ℕ) : Type 0 where
  pub place : r ≡ top_of (roomy_for size n (table_by [] s l b)) n
  pub table : (m : List ℕ) → table_by m s' l b' ≡ roomy_for size n (table_by m s l b)

-- the bytes v were put in for cell c
pub record Put (n c : ℕ) (v : Value) (s l b s' l' b' : List ℕ) : Type 0 where
  pub table : (m : List ℕ) → table_by m s' l' b' ≡ bytes_put n c v (table_by m s l b)
