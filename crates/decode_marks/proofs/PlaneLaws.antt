-- A plane of cells within a list, and the stored ones that its cells take.
-- Assumes nothing.
use mathlib.Core.Path.{◌≡◌, sym, ◌∙◌}
use mathlib.Core.List.{List}
use Prim.Native.Nat.{ℕ, suc, ◌+◌, ◌*◌, ◌≤◌, ◌<◌}
use native.Mathlib.Omega.{arith}
use native.Mathlib.Nat.{suc-mul, mul-le-mul_right}
use lib.ListN.{length, take, drop, get_or, length-drop}
use lib.Seq.{length-take-le, get_or-drop, get_or-take}
use Rattle.array.specs.Cells.{Mark, is_null, is_set, is_other}
use Rattle.decode_marks.specs.Next.{next_at}

-- the plane of n cells at `from`
abbrev pub plane_at : ℕ → ℕ → List ℕ → List ℕ
plane_at from n d = take n (drop from d)

pub plane_length : (from n : ℕ) (d : List ℕ) → from + n ≤ length d → length (plane_at from n d) ≡ n
plane_length from n d h = length-take-le n (drop from d) (omega (arith, length-drop from d))

pub plane_byte : (from n : ℕ) (d : List ℕ) (i : ℕ) → i < n → get_or d (from + i) 0 ≡ get_or (plane_at from n d) i 0
plane_byte from n d i h = sym (get_or-take n (drop from d) i 0 h ∙ get_or-drop from d i 0)

-- a cell takes at most one of the stored ones
pub next_most : (m : Mark) (k n : ℕ) → k < n → next_at m k 1 ≤ n
next_most is_null k n h = omega arith
next_most is_set k n h = omega arith
next_most is_other k n h = omega arith

-- the next of the stored ones, of w bytes each, lies within them
pub next_within : (w at k cells l : ℕ) → k < cells → at + cells * w ≤ l → at + k * w + w ≤ l
next_within w at k cells l h r = omega (arith, suc-mul k w, mul-le-mul_right {m = suc k} {n = cells} w h)
