-- docs/SPEC.md, S12.2: the load, what a cell draws. A table is drawn cell by cell from a start number.
-- Assumes nothing.
use Rattle.std.specs.Prelude.{ℕ, zero, suc, ◌%◌, List, [], ◌∷◌}
use Rattle.array.specs.Kind.{Kind, Form, fixed, ragged, null_of}
use Rattle.array.specs.Shape.{volume}
use Rattle.array.specs.Cells.{Value, Cell, blank}
use Rattle.array.specs.Content.{Content, layout}
use Rattle.load.specs.Generator.{Drew, draw, draw_bytes}

-- the length of a ragged value, by its draw
abbrev pub length_by : ℕ → ℕ
length_by m = m % 9

-- a fixed value is its bytes; a ragged one draws its length first
unfoldable pub draw_value : Form → ℕ → Drew Value
unfolding draw draw_bytes
draw_value (fixed k o) s = draw_bytes k s
draw_value (ragged w p) s = draw_bytes (length_by (draw s).made) (draw s).state

-- a level whose draw is m mod 4, and the state after it: null for 0, and then b stands below and nothing is drawn for it; else set, above r
abbrev pub level_by : {A : Type 0} → ℕ → ℕ → A → Drew A → Drew (ℕ × A)
level_by zero s b r = record { made = (0, b); state = s }
level_by (suc m) s b r = record { made = (1, r.made); state = r.state }

unfoldable pub draw_cell : Form → (d : ℕ) → ℕ → Drew (Cell d)
unfolding draw draw_value
draw_cell f zero s = draw_value f s
draw_cell f (suc d) s = level_by ((draw s).made % 4) (draw s).state (blank (null_of f) d) (draw_cell f d (draw s).state)

-- n cells, one after another
unfoldable pub draw_cells : Form → (d n : ℕ) → ℕ → Drew (List (Cell d))
unfolding draw_cell
draw_cells f d zero s = record { made = []; state = s }
draw_cells f d (suc n) s =
    let c = draw_cell f d s in
    let r = draw_cells f d n c.state in
    record { made = c.made ∷ r.made; state = r.state }

abbrev pub load_of : Kind → List ℕ → ℕ → Content
load_of k shape s = layout k.form k.depth (draw_cells k.form k.depth (volume shape) s).made
