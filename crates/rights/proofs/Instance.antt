-- The laws' hypotheses can be met: two arrays that differ where the plane hides them, and a table of two cells of which it hides one.
-- Assumes nothing.
use mathlib.Core.Path.{◌≡◌, refl}
use mathlib.Core.Logic.{◌⊎◌}
use mathlib.Core.Bool.{true, false≢true}
use mathlib.Core.List.{List, [], ◌∷◌}
use Prim.Native.Nat.{ℕ, zero, suc}
use native.Mathlib.Omega.{arith}
use lib.ListN.{length}
use lib.Dec.{leb, lit≤, lit<}
use Rattle.array.specs.Answer.{refuses}
use Rattle.array.specs.Limits.{most_cells, most_bytes}
use Rattle.array.specs.Content.{Content, Valid}
use Rattle.array.proofs.Rules.{kind_ok, shape_ok, array_ok, strict_bytes_ok}
use Rattle.table.specs.Table.{Table, table_test, most_store, cell_of}
use Rattle.table.specs.Calls.{cell_set}
use Rattle.table.specs.Laws.{Working}
use Rattle.table.specs.Lines.{single, table, array, a, b, x, y, z}
use Rattle.table.proofs.Rules.{table_kind_ok, count_ok, table_ok, store_ok}
use Rattle.rights.specs.Rights.{RightsOk}
use Rattle.rights.specs.Calls.{guest_read, guest_edit}
use Rattle.rights.specs.Laws.{ShowsLaw, AgreeWhere, EditLaw}
use Rattle.rights.specs.Lines.{lent, two}
use Rattle.rights.proofs.Seeing.{shows}
use Rattle.rights.proofs.Concealing.{conceals}
use Rattle.rights.proofs.Editing.{edits}

-- the first cell is shown
abbrev plane : List ℕ
plane = 1 ∷ 0 ∷ []

-- a and b, and a with a null
abbrev both : Content
both = array (1 ∷ 1 ∷ []) (a ∷ b ∷ []) (0 ∷ 1 ∷ 2 ∷ [])

abbrev other : Content
other = array (1 ∷ 0 ∷ []) (a ∷ []) (0 ∷ 1 ∷ 1 ∷ [])

valid_both : Valid single (2 ∷ []) both
unfolding most_cells most_bytes
valid_both = record { kind = kind_ok single refl; shaped = shape_ok (2 ∷ []) refl; content = array_ok single 2 both refl; small = lit≤ tt }

valid_other : Valid single (2 ∷ []) other
unfolding most_cells most_bytes
valid_other = record { kind = kind_ok single refl; shaped = shape_ok (2 ∷ []) refl; content = array_ok single 2 other refl; small = lit≤ tt }

plane_ok : RightsOk 2 plane
plane_ok = strict_bytes_ok 2 plane refl

pub read : ShowsLaw single (2 ∷ []) plane both
read = shows single (2 ∷ []) plane both valid_both (lit< tt) plane_ok

agree : AgreeWhere single 2 plane both other
agree zero h shown = refl
agree (suc zero) h shown = absurd (false≢true shown)
agree (suc (suc j)) h shown = absurd (omega arith)

pub concealed : guest_read single (2 ∷ []) plane both lent ≡ guest_read single (2 ∷ []) plane other lent
concealed = conceals single (2 ∷ []) plane both other lent valid_both valid_other agree

-- ---- an edit of the second cell, the first being hidden

abbrev second : List ℕ
second = 0 ∷ 1 ∷ []

edit_law : EditLaw single 2 second two 1 (1 ∷ []) (z ∷ z ∷ [])
edit_law = edits single 2 second two 1 (1 ∷ []) (z ∷ z ∷ [])

pub set : guest_edit single 2 second two 1 (1 ∷ []) (z ∷ z ∷ []) ≡ cell_set single 2 two 1 (1 ∷ []) (z ∷ z ∷ [])
set = edit_law.sets (lit< tt) (strict_bytes_ok 2 second refl) refl

pub left : cell_of 1 2 (guest_edit single 2 second two 1 (1 ∷ []) (z ∷ z ∷ [])).buffers 0 ≡ cell_of 1 2 two 0
left = edit_law.leaves 0 (lit< tt) refl

-- the same cells in a store without a free byte
abbrev full : Table
full = table (1 ∷ 1 ∷ []) (1 ∷ 0 ∷ []) (1 ∷ 1 ∷ []) (y ∷ x ∷ [])

working : (t : Table) → table_test 1 2 t ≡ true → leb (length t.store) most_store ≡ true → Working single 2 t
unfolding most_cells
working t sound small = record { kind = table_kind_ok single refl; count = count_ok 2 refl; sound = table_ok 1 2 t sound; small = store_ok t small }

pub told : ((guest_edit single 2 second two 1 (1 ∷ []) (z ∷ z ∷ [])).answer ≡ (guest_edit single 2 second full 1 (1 ∷ []) (z ∷ z ∷ [])).answer)
    ⊎ ((guest_edit single 2 second two 1 (1 ∷ []) (z ∷ z ∷ [])).answer ≡ refuses 16) ⊎ ((guest_edit single 2 second full 1 (1 ∷ []) (z ∷ z ∷ [])).answer ≡ refuses 16)
unfolding table_test most_store
told = edit_law.tells full (working two refl refl) (working full refl refl)
