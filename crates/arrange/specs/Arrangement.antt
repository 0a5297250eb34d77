-- docs/SPEC.md, S15.1, S15.2: the states of a small cell, and an arrangement of cells by its number, whose digits are their states.
-- Assumes nothing.
use Rattle.std.specs.Prelude.{ℕ, zero, suc, ◌+◌, ◌^◌, List, [], map, reverse, replicate}
use Rattle.array.specs.Bytes.{digits}
use Rattle.array.specs.Kind.{Form, ragged, at_start}
use Rattle.array.specs.Cells.{Cell, blank}
use Rattle.array.specs.Content.{Content, layout}

-- null at level 1 up to level d, then all masks set with 0, 1, 2, 3 bytes
abbrev pub states : ℕ → ℕ
states d = d + 4

-- the cell of depth d in state i
abbrev pub state_cell : (d : ℕ) → ℕ → Cell d
state_cell zero i = replicate i 0
state_cell (suc d) zero = (0, blank [] d)
state_cell (suc d) (suc i) = (1, state_cell d i)

-- how many arrangements there are of n cells
abbrev pub arrangement_count : ℕ → ℕ → ℕ
arrangement_count d n = states d ^ n

-- the states of the cells in number k, the first cell weighing most
abbrev pub states_of : ℕ → ℕ → ℕ → List ℕ
states_of d n k = reverse (digits (states d) n k)

-- any ragged form: width and place do not show
abbrev pub any_ragged : Form
any_ragged = ragged 4 at_start

abbrev pub arrangement : ℕ → ℕ → ℕ → Content
arrangement d n k = layout any_ragged d (map (state_cell d) (states_of d n k))
