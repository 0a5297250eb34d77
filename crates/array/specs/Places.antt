-- docs/SPEC.md, S1.4 to S1.6, S1.8, S2.1, S2.2: a cell by its number.
-- The laws cell_is and laid_is in array/proofs/Numbered.antt: an array's cells, and those that are laid out, are these.
-- Its mask bytes, one of each plane, and its value, which lies from off j up to off (j + 1): the bytes of a mask plane and fixed values at
-- equal steps, ragged values between their offsets.
-- Assumes nothing.
use Rattle.std.specs.Prelude.{ℕ, zero, suc, ◌+◌, ◌-◌, ◌*◌, ◌≤◌, ◌<◌, Bool, true, ◌&&◌, List, [], ◌∷◌, ◌++◌, map, get_or, take, drop}
use Rattle.array.specs.Lists.{joined}
use Rattle.array.specs.Kind.{Kind, Form, fixed, ragged}
use Rattle.array.specs.Cells.{Value, Cell, set_test}
use Rattle.array.specs.Content.{Content, offsets_for}

-- ---- values

-- cells of k bytes, the first at base
abbrev pub fixed_at : ℕ → ℕ → ℕ → ℕ
fixed_at base k j = base + j * k

abbrev pub offset_at : List ℕ → ℕ → ℕ
offset_at os j = get_or os j 0

abbrev pub begins_at : Form → List ℕ → ℕ → ℕ
begins_at (fixed k o) os = fixed_at 0 k
begins_at (ragged w p) os = offset_at os

-- none of the first v cells ends before it begins
abbrev pub Rises : (ℕ → ℕ) → ℕ → Type 0
Rises off v = (j : ℕ) → j < v → off j ≤ off (suc j)

-- how many bytes cell j has, and which
abbrev pub step_at : (ℕ → ℕ) → ℕ → ℕ
step_at off j = off (suc j) - off j

abbrev pub value_at : (ℕ → ℕ) → List ℕ → ℕ → Value
value_at off s j = take (step_at off j) (drop (off j) s)

-- the value of cell j of an array
abbrev pub value_in : Form → Content → ℕ → Value
value_in f c j = value_at (begins_at f c.offsets) c.values j

-- numbers added up, and each added to those before it, from a on
abbrev pub sum : List ℕ → ℕ
sum [] = 0
sum (x ∷ xs) = x + sum xs

abbrev pub sums : ℕ → List ℕ → List ℕ
sums a [] = []
sums a (x ∷ xs) = (a + x) ∷ sums (a + x) xs

-- the values of the cells js, how many bytes each has, and all, and where each ends when they lie end to end from a on
abbrev pub values_at : (ℕ → ℕ) → List ℕ → List ℕ → List Value
values_at off s js = map (value_at off s) js

abbrev pub steps_at : (ℕ → ℕ) → List ℕ → List ℕ
steps_at off js = map (step_at off) js

abbrev pub bytes_at : (ℕ → ℕ) → List ℕ → ℕ
bytes_at off js = sum (steps_at off js)

abbrev pub ends_at : (ℕ → ℕ) → ℕ → List ℕ → List ℕ
ends_at off a js = sums a (steps_at off js)

-- ---- mask bytes

-- of cell j at level l, of planes of n bytes; of the cells js
abbrev pub mask_at : ℕ → List ℕ → ℕ → ℕ → ℕ
mask_at n masks l j = get_or masks (l * n + j) 0

abbrev pub masks_at : ℕ → List ℕ → ℕ → List ℕ → List ℕ
masks_at n masks l js = map (mask_at n masks l) js

-- of the cells js at d levels, from level l on: m l j is that of cell j at level l
abbrev pub planes_by : (ℕ → ℕ → ℕ) → (d l : ℕ) → List ℕ → List ℕ
planes_by m zero l js = []
planes_by m (suc d) l js = map (m l) js ++ planes_by m d (suc l) js

-- the same by places, a byte of a plane being a cell of one byte
abbrev pub planes_at : ℕ → ℕ → ℕ → List ℕ → List ℕ → List ℕ
planes_at zero l n ps js = []
planes_at (suc d) l n ps js = joined (values_at (fixed_at (l * n) 1) ps js) ++ planes_at d (suc l) n ps js

-- ---- cells

-- the cell with the mask bytes m l, m (l + 1) and so on, d of them, and the value v
abbrev pub cell_by : (ℕ → ℕ) → Value → (d l : ℕ) → Cell d
cell_by m v zero l = v
cell_by m v (suc d) l = (m l, cell_by m v d (suc l))

-- what such a cell has at level l is shown: all mask bytes before it are set
abbrev pub shown_by : (ℕ → ℕ) → ℕ → Bool
shown_by m zero = true
shown_by m (suc l) = shown_by m l && set_test (m l)

-- the same of cell j of an array of n cells
abbrev pub shown_at : ℕ → List ℕ → ℕ → ℕ → Bool
shown_at n masks l j = shown_by (λ i. mask_at n masks i j) l

abbrev pub cell_at : (k : Kind) → ℕ → Content → ℕ → Cell k.depth
cell_at k n c j = cell_by (λ l. mask_at n c.masks l j) (value_in k.form c j) k.depth 0

-- the content whose cells js have the mask bytes m l j and the values v j
abbrev pub laid_by : Form → ℕ → (ℕ → ℕ → ℕ) → (ℕ → Value) → List ℕ → Content
laid_by f d m v js = record { masks = planes_by m d 0 js; values = joined (map v js); offsets = offsets_for f (map v js) }
