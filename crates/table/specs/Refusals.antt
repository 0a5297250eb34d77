-- docs/SPEC.md, S7.1 to S7.3, S6.18 to S6.22: the rules of the calls on a working table, each with its refusal, in their order.
-- Assumes nothing.
use Rattle.std.specs.Prelude.{ℕ, ◌≤◌, ◌<◌, List, [], ◌∷◌, length}
use Rattle.array.specs.Limits.{most_bytes}
use Rattle.array.specs.Kind.{Kind}
use Rattle.array.specs.Cells.{Value}
use Rattle.array.specs.Content.{Content, ArrayOk, rest_form}
use Rattle.array.specs.Buffers.{lengths_of, Enough}
use Rattle.array.specs.Refusals.{Rule, InOrder}
use Rattle.table.specs.Table.{Table, TableKind, CountOk, TableOk, most_store}
use Rattle.table.specs.Setting.{SettingOk, setting_of, sum_after}
use Rattle.table.specs.Calls.{table_of, TableEnough, table_lengths, content_of, made, read_out, cell_set, previewed, cells_packed}

-- the first 5 is the array's, the second the store's
abbrev pub make_rules : Kind → ℕ → Content → Table → List Rule
make_rules k n c out =
    (1, TableKind k) ∷ (2, CountOk n) ∷ (4, ArrayOk k n c) ∷ (5, length c.values ≤ most_bytes) ∷ (5, length out.store ≤ most_store)
    ∷ (6, TableEnough (table_of n (rest_form k n c)) (table_lengths out)) ∷ []

abbrev pub read_rules : Kind → ℕ → Table → Content → List Rule
read_rules k n t out =
    (1, TableKind k) ∷ (2, CountOk n) ∷ (4, TableOk k.depth n t) ∷ (5, length t.store ≤ most_store) ∷ (6, Enough (content_of k n t) (lengths_of out)) ∷ []

-- 4 is the table's and the setting's; a preview has the same rules
abbrev pub set_rules : Kind → ℕ → Table → ℕ → List ℕ → Value → List Rule
set_rules k n t c ms v =
    (1, TableKind k) ∷ (2, CountOk n) ∷ (4, TableOk k.depth n t × SettingOk k.depth ms) ∷ (5, length t.store ≤ most_store) ∷ (15, c < n)
    ∷ (16, sum_after k.depth c (setting_of k.depth ms v) t ≤ length t.store) ∷ []

-- 1 is the kind's and that of how many cells to move
abbrev pub pack_rules : Kind → ℕ → Table → ℕ → List Rule
pack_rules k n t most =
    (1, TableKind k × ((1 ≤ most) × (most ≤ 256))) ∷ (2, CountOk n) ∷ (4, TableOk k.depth n t) ∷ (5, length t.store ≤ most_store) ∷ []

pub record Refusals : Type 1 where
  pub make : (k : Kind) (n : ℕ) (c : Content) (out : Table) → InOrder (make_rules k n c out) (made k n c out).answer
  pub read : (k : Kind) (n : ℕ) (t : Table) (out : Content) → InOrder (read_rules k n t out) (read_out k n t out).answer
  pub set : (k : Kind) (n : ℕ) (t : Table) (c : ℕ) (ms : List ℕ) (v : Value) → InOrder (set_rules k n t c ms v) (cell_set k n t c ms v).answer
  pub preview : (k : Kind) (n : ℕ) (t : Table) (c : ℕ) (ms : List ℕ) (v : Value) → InOrder (set_rules k n t c ms v) (previewed k n t c ms v)
  pub pack : (k : Kind) (n : ℕ) (t : Table) (most : ℕ) → InOrder (pack_rules k n t most) (cells_packed k n t most).answer
