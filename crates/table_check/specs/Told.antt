-- Redundant by the contract of `table_pack::pack_table`, table_pack/src/lib.rt: what the check of a table answers.
-- Assumes nothing.
use Rattle.std.specs.Prelude.{ℕ, ◌≤◌, ◌≡◌, false, Option, Some, None, List, take}
use Rattle.table.specs.Table.{Table, start_of, length_of, filled, TableOk, table_test}
use Rattle.table.specs.Lying.{lying_by}

-- a table that keeps the rules, and its m cells with bytes, as they lie, at the front of the numbers js
pub record Lain (d n : ℕ) (t : Table) (js : List ℕ) (m : ℕ) : Type 0 where
  pub sound : TableOk d n t
  pub few : m ≤ n
  pub order : take m js ≡ lying_by (start_of t) (length_of t) (filled t n)

-- what the answer says
abbrev pub ToldOrder : ℕ → ℕ → Table → List ℕ → Option ℕ → Type 0
ToldOrder d n t js (Some m) = Lain d n t js m
ToldOrder d n t js None = table_test d n t ≡ false
