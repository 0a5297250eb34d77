-- docs/SPEC.md, S7.1 to S7.3, S6.23, S6.24: the rules of guests' calls, each with its refusal, in their order.
-- Assumes nothing.
use Rattle.std.specs.Prelude.{ℕ, ◌≤◌, ◌<◌, ◌≡◌, true, List, [], ◌∷◌, length}
use Rattle.array.specs.Limits.{most_bytes}
use Rattle.array.specs.Kind.{Kind, KindOk}
use Rattle.array.specs.Cells.{Value}
use Rattle.array.specs.Shape.{volume, ShapeOk}
use Rattle.array.specs.Content.{Content, ArrayOk}
use Rattle.array.specs.Buffers.{lengths_of, Enough}
use Rattle.array.specs.Refusals.{Rule, InOrder}
use Rattle.table.specs.Table.{Table, TableKind, CountOk, TableOk, most_store}
use Rattle.table.specs.Setting.{SettingOk, setting_of, sum_after}
use Rattle.rights.specs.Rights.{RightsOk, permits, guest_form}
use Rattle.rights.specs.Calls.{guest_read, guest_edit}

-- the first 4 is the plane's, the second the array's
abbrev pub guest_read_rules : Kind → List ℕ → List ℕ → Content → Content → List Rule
guest_read_rules k shape rights c out =
    (1, KindOk k) ∷ (2, ShapeOk shape) ∷ (17, 0 < k.depth) ∷ (4, RightsOk (volume shape) rights) ∷ (4, ArrayOk k (volume shape) c)
    ∷ (5, length c.values ≤ most_bytes) ∷ (6, Enough (guest_form k (volume shape) rights c) (lengths_of out)) ∷ []

-- the first 4 is the plane's, the second the table's and the setting's
abbrev pub guest_edit_rules : Kind → ℕ → List ℕ → Table → ℕ → List ℕ → Value → List Rule
guest_edit_rules k n rights t c ms v =
    (1, TableKind k) ∷ (2, CountOk n) ∷ (17, 0 < k.depth) ∷ (4, RightsOk n rights) ∷ (4, TableOk k.depth n t × SettingOk k.depth ms)
    ∷ (5, length t.store ≤ most_store) ∷ (15, c < n) ∷ (18, permits rights c ≡ true)
    ∷ (16, sum_after k.depth c (setting_of k.depth ms v) t ≤ length t.store) ∷ []

pub record Refusals : Type 1 where
  pub guest_read_call : (k : Kind) (shape rights : List ℕ) (c out : Content) → InOrder (guest_read_rules k shape rights c out) (guest_read k shape rights c out).answer
  pub guest_edit_call : (k : Kind) (n : ℕ) (rights : List ℕ) (t : Table) (c : ℕ) (ms : List ℕ) (v : Value)
      → InOrder (guest_edit_rules k n rights t c ms v) (guest_edit k n rights t c ms v).answer
