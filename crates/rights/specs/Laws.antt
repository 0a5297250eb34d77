-- docs/SPEC.md, S14.4 to S14.7: what a guest sees and learns, and what its edits change.
-- Assumes nothing.
use Rattle.std.specs.Prelude.{ℕ, ◌<◌, ◌≡◌, ◌⊎◌, true, false, List}
use Rattle.array.specs.Answer.{gives, refuses}
use Rattle.array.specs.Lists.{pick}
use Rattle.array.specs.Kind.{Kind}
use Rattle.array.specs.Cells.{Value}
use Rattle.array.specs.Shape.{volume}
use Rattle.array.specs.Content.{Content, Valid, null_cell, rest_form}
use Rattle.array.specs.Buffers.{lengths_of, Enough, content_outcome}
use Rattle.array.specs.Places.{cell_at}
use Rattle.table.specs.Table.{Table, cell_of}
use Rattle.table.specs.Calls.{cell_set}
use Rattle.table.specs.Laws.{Working}
use Rattle.rights.specs.Rights.{RightsOk, permits, guest_form}
use Rattle.rights.specs.Calls.{guest_read, guest_edit}

-- ---- a guest's read shows the cells that the plane shows, in rest form, and nulls elsewhere

pub record ShowsLaw (k : Kind) (shape rights : List ℕ) (c : Content) : Type 0 where
  pub given : (out : Content) → Enough (guest_form k (volume shape) rights c) (lengths_of out)
      → guest_read k shape rights c out ≡ content_outcome (gives (guest_form k (volume shape) rights c)) out
  pub cells : (j : ℕ) → j < volume shape
      → cell_at k (volume shape) (guest_form k (volume shape) rights c) j ≡ pick (permits rights j) (cell_at k (volume shape) (rest_form k (volume shape) c) j) (null_cell k)
  pub rests : rest_form k (volume shape) (guest_form k (volume shape) rights c) ≡ guest_form k (volume shape) rights c
  pub valid : Valid k shape (guest_form k (volume shape) rights c)

abbrev pub Shows : Type 0
Shows = (k : Kind) (shape rights : List ℕ) (c : Content) → Valid k shape c → 0 < k.depth → RightsOk (volume shape) rights → ShowsLaw k shape rights c

-- ---- it learns nothing of the others: two arrays that agree in rest form where the plane shows them get one answer and the same written bytes

abbrev pub AgreeWhere : Kind → ℕ → List ℕ → Content → Content → Type 0
AgreeWhere k n rights c c' = (j : ℕ) → j < n → permits rights j ≡ true → cell_at k n (rest_form k n c) j ≡ cell_at k n (rest_form k n c') j

-- any plane, any outputs: refusals and lengths included
abbrev pub Conceals : Type 0
Conceals = (k : Kind) (shape rights : List ℕ) (c c' out : Content) → Valid k shape c → Valid k shape c' → AgreeWhere k (volume shape) rights c c'
    → guest_read k shape rights c out ≡ guest_read k shape rights c' out

-- ---- a guest's edit

pub record EditLaw (k : Kind) (n : ℕ) (rights : List ℕ) (t : Table) (c : ℕ) (ms : List ℕ) (v : Value) : Type 0 where
  -- of a cell that is shown it is the setting
  pub sets : 0 < k.depth → RightsOk n rights → permits rights c ≡ true → guest_edit k n rights t c ms v ≡ cell_set k n t c ms v
  -- no cell that is hidden changes, in masks or value
  pub leaves : (j : ℕ) → j < n → permits rights j ≡ false → cell_of k.depth n (guest_edit k n rights t c ms v).buffers j ≡ cell_of k.depth n t j
  -- of two tables that keep the rules it tells apart only how full they are
  pub tells : (t' : Table) → Working k n t → Working k n t'
      → ((guest_edit k n rights t c ms v).answer ≡ (guest_edit k n rights t' c ms v).answer)
      ⊎ ((guest_edit k n rights t c ms v).answer ≡ refuses 16) ⊎ ((guest_edit k n rights t' c ms v).answer ≡ refuses 16)

-- on all input
abbrev pub Edits : Type 0
Edits = (k : Kind) (n : ℕ) (rights : List ℕ) (t : Table) (c : ℕ) (ms : List ℕ) (v : Value) → EditLaw k n rights t c ms v
