-- Redundant by the law unpacked_is in table/proofs/Foreseeing.antt: what a walk over the cells of a table but one (S13.5, S13.7) is given, and finds.
-- Assumes nothing.
use Rattle.std.specs.Prelude.{ℕ, ◌≤◌, ◌≡◌, List, map, length}
use Rattle.array.specs.Lists.{All}
use Rattle.array.specs.Places.{sum, offset_at}
use Rattle.table.specs.Table.{most_store}
use Rattle.table.specs.Lying.{top_by}
use Rattle.table.specs.Walk.{elsewhere_by, without}
use Rattle.table_check.specs.Check.{Reached}

-- cells that are there, and have no more bytes than a store
pub record Walkable (starts lengths order : List ℕ) : Type 0 where
  pub reached : All (Reached starts lengths) order
  pub small : sum (map (offset_at lengths) order) ≤ most_store

-- of the cells js without cell c so many start elsewhere, no more than there are, and they end at `top`
pub record Found (start len : ℕ → ℕ) (c : ℕ) (js : List ℕ) (unpacked top : ℕ) : Type 0 where
  pub elsewhere : unpacked ≡ elsewhere_by start len 0 (without c js)
  pub few : unpacked ≤ length js
  pub ends : top ≡ top_by start len (without c js)
