-- The laws' hypotheses can be met: a table of three cells, one of them null, with a free byte between the two others.
-- Assumes nothing.
use mathlib.Core.Path.{◌≡◌, refl}
use mathlib.Core.Logic.{inr}
use mathlib.Core.List.{[], ◌∷◌}
use lib.Dec.{lit≤, lit<}
use Rattle.array.specs.Answer.{gives}
use Rattle.array.specs.Limits.{most_cells, most_bytes}
use Rattle.array.specs.Content.{Content}
use Rattle.array.proofs.Rules.{array_ok}
use Rattle.table.specs.Table.{Table, TableKind, CountOk, cell_of, table_test, most_store}
use Rattle.table.specs.Lying.{displaced}
use Rattle.table.specs.Calls.{make_answer, made, read_out, cell_set, looked_at, previewed, cells_packed}
use Rattle.table.specs.Lines.{single, table, array, a, b, c, x, z, o}
use Rattle.table.specs.Laws.{Working, MakeLaw, SetLaw, PackLaw, packed_times}
use Rattle.table.proofs.Rules.{table_ok}
use Rattle.table.proofs.Reading.{reads}
use Rattle.table.proofs.Making.{makes}
use Rattle.table.proofs.Setting.{sets}
use Rattle.table.proofs.Packing.{packs}
use Rattle.table.proofs.Previewing.{previews}

kind : TableKind single
kind = record { sound = record { shallow = lit≤ tt; sound = inr refl }; is_ragged = tt }

count : CountOk 3
unfolding most_cells
count = (lit≤ tt, lit≤ tt)

-- x lies lowest and starts where it belongs, ab does not
abbrev lying : Table
lying = table (1 ∷ 0 ∷ 1 ∷ []) (2 ∷ 0 ∷ 0 ∷ []) (2 ∷ 0 ∷ 1 ∷ []) (x ∷ o ∷ a ∷ b ∷ [])

working : Working single 3 lying
unfolding table_test most_store
working = record { kind = kind; count = count; sound = table_ok 1 3 lying refl; small = lit≤ tt }

-- ---- read out

abbrev lent : Content
lent = array (9 ∷ 9 ∷ 9 ∷ []) (9 ∷ 9 ∷ 9 ∷ 9 ∷ []) (9 ∷ 9 ∷ 9 ∷ 9 ∷ [])

pub read : read_out single 3 lying lent
    ≡ record { answer = gives (record { masks = 3; values = 3; offsets = 4 }); buffers = array (1 ∷ 0 ∷ 1 ∷ []) (a ∷ b ∷ x ∷ 9 ∷ []) (0 ∷ 2 ∷ 2 ∷ 3 ∷ []) }
read = (reads single 3 lying working).given lent (record { for_masks = lit≤ tt; for_values = lit≤ tt; for_offsets = lit≤ tt })

-- ---- made of an array with a hidden byte

abbrev hiding : Content
hiding = array (1 ∷ 0 ∷ 1 ∷ []) (a ∷ z ∷ b ∷ []) (0 ∷ 1 ∷ 2 ∷ 3 ∷ [])

abbrev room : Table
room = table (9 ∷ 9 ∷ 9 ∷ []) (9 ∷ 9 ∷ 9 ∷ []) (9 ∷ 9 ∷ 9 ∷ []) (9 ∷ 9 ∷ 9 ∷ [])

make_law : MakeLaw single 3 hiding room
unfolding most_bytes most_store
make_law =
    makes single 3 hiding room kind count (array_ok single 3 hiding refl) (lit≤ tt) (lit≤ tt)
    (record { for_masks = lit≤ tt; for_starts = lit≤ tt; for_lengths = lit≤ tt; for_store = lit≤ tt })

pub given : (made single 3 hiding room).answer ≡ gives (record { masks = 3; starts = 3; lengths = 3; store = 2 })
given = make_law.given

pub returned : read_out single 3 (table (1 ∷ 0 ∷ 1 ∷ []) (0 ∷ 0 ∷ 1 ∷ []) (1 ∷ 0 ∷ 1 ∷ []) (a ∷ b ∷ 9 ∷ [])) lent
    ≡ record { answer = gives (record { masks = 3; values = 2; offsets = 4 }); buffers = array (1 ∷ 0 ∷ 1 ∷ []) (a ∷ b ∷ 9 ∷ 9 ∷ []) (0 ∷ 1 ∷ 1 ∷ 2 ∷ []) }
unfolding most_cells most_bytes most_store made make_answer
returned = make_law.returns lent (record { for_masks = lit≤ tt; for_values = lit≤ tt; for_offsets = lit≤ tt })

-- ---- the null cell set to c: no byte is free behind ab, so all cells are packed first

set_law : SetLaw single 3 lying 1 (1 ∷ []) (c ∷ [])
set_law = sets single 3 lying 1 (1 ∷ []) (c ∷ []) working (record { counted = refl; strict = (lit≤ tt, tt) }) (lit< tt) (lit≤ tt)

pub here : cell_of 1 3 (cell_set single 3 lying 1 (1 ∷ []) (c ∷ [])).buffers 1 ≡ (1, c ∷ [])
here = set_law.cells 1 (lit< tt)

pub there : cell_of 1 3 (cell_set single 3 lying 1 (1 ∷ []) (c ∷ [])).buffers 0 ≡ (1, a ∷ b ∷ [])
there = set_law.cells 0 (lit< tt)

-- ---- that setting previewed: the packing is foreseen

pub foreseen : previewed single 3 lying 1 (1 ∷ []) (c ∷ []) ≡ gives (looked_at 3 (cell_set single 3 lying 1 (1 ∷ []) (c ∷ [])).buffers)
foreseen = (previews single 3 lying 1 (1 ∷ []) (c ∷ [])).looks set_law.given

-- ---- packed by one call that moves one cell

pack_law : PackLaw single 3 lying 1
pack_law = packs.once single 3 lying 1 working (lit≤ tt) (lit≤ tt)

pub moved : (cells_packed single 3 lying 1).answer ≡ gives 1
moved = pack_law.given

pub none_left : displaced (packed_times 1 single 3 1 lying) 3 ≡ []
none_left = packs.whole single 3 lying 1 1 working (lit≤ tt) (lit≤ tt) (lit≤ tt)
