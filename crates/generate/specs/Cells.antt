-- Redundant by the law drawn in generate/proofs/Drawing.antt: a cell (S12.2) drawn in the order of the code.
-- How many of its levels are set, then its value. And where its mask bytes go: planes_laid in generate/proofs/Columns.antt.
-- Assumes nothing.
use Rattle.std.specs.Prelude.{ℕ, zero, suc, ◌+◌, ◌%◌, List, [], ◌∷◌, length, set}
use Rattle.array.specs.Kind.{Form, fixed, ragged, little, at_start}
use Rattle.array.specs.Cells.{Cell, Mark, is_null, is_set, is_other, mark_of, leaf}
use Rattle.array.specs.Lists.{joined}
use Rattle.array.specs.Content.{leaves}
use Rattle.load.specs.Generator.{Drew, draw}
use Rattle.load.specs.Load.{draw_cells}

-- the levels that are set, up to the first null
abbrev pub levels_by : ℕ → ℕ → Drew ℕ → Drew ℕ
levels_by zero s r = record { made = 0; state = s }
levels_by (suc m) s r = record { made = suc r.made; state = r.state }

unfoldable pub set_levels : ℕ → ℕ → Drew ℕ
set_levels zero s = record { made = 0; state = s }
set_levels (suc d) s = levels_by ((draw s).made % 4) (draw s).state (set_levels d (draw s).state)

-- ---- mask bytes in the planes

-- the mask bytes of a cell that are set, up to the first that is not
abbrev pub set_masks_by : Mark → List ℕ → List ℕ
set_masks_by is_null r = []
set_masks_by is_set r = 1 ∷ r
set_masks_by is_other r = []

abbrev pub set_masks : (d : ℕ) → Cell d → List ℕ
set_masks zero c = []
set_masks (suc d) c = set_masks_by (mark_of c.0) (set_masks d c.1)

-- bytes stored at `at` in one plane of n cells after another
abbrev pub column : ℕ → ℕ → List ℕ → List ℕ → List ℕ
column n at [] out = out
column n at (m ∷ ms) out = column n (at + n) ms (set out at m)

-- ---- forms: byte order, index width and index place draw nothing

abbrev pub sized : ℕ → Form
sized size = fixed size little

abbrev pub lengthy : Form
lengthy = ragged 8 at_start

-- n cells, and how many value bytes they have
abbrev pub cells_from : Form → (d n s : ℕ) → List (Cell d)
cells_from f d n s = (draw_cells f d n s).made

abbrev pub bytes_from : Form → (d n s : ℕ) → ℕ
bytes_from f d n s = length (joined (leaves d (cells_from f d n s)))

-- of a drawn cell only the length of its value
abbrev pub length_drawn : (d : ℕ) → Drew (Cell d) → Drew ℕ
length_drawn d c = record { made = length (leaf d c.made); state = c.state }
