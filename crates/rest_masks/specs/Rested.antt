-- Redundant by the law rest_laid in array/proofs/Numbered.antt: the mask planes of the rest form (S2.1), by cell numbers.
-- Assumes nothing.
use Rattle.std.specs.Prelude.{ℕ, ◌+◌, ◌≡◌, List, ◌++◌, Option, None, Some, map, length, get_or, take, drop}
use Rattle.std.specs.Borrow.{Bor}
use Rattle.array.specs.Lists.{pick, from}
use Rattle.array.specs.Cells.{set_test}
use Rattle.array.specs.Places.{mask_at, planes_by, shown_at}

-- of cell j at level l: it stays where it is shown
abbrev pub rest_mask : ℕ → List ℕ → ℕ → ℕ → ℕ
rest_mask n ms l j = pick (shown_at n ms l j) (mask_at n ms l j) 0

abbrev pub rest_planes : ℕ → List ℕ → ℕ → List ℕ
rest_planes n ms d = planes_by (rest_mask n ms) d 0 (from 0 n)

-- of cell j in the plane behind the one at `at`: it stays where the byte above it is set
abbrev pub kept_at : ℕ → List ℕ → List ℕ → ℕ → ℕ → ℕ
kept_at n out ms at j = pick (set_test (get_or out (at + j) 0)) (get_or ms (at + n + j) 0) 0

-- of cell j in a plane below another one
abbrev pub kept_by : List ℕ → List ℕ → ℕ → ℕ
kept_by above ms j = pick (set_test (get_or above j 0)) (get_or ms j 0) 0

-- planes of n bytes, where another one may lie above them: the outermost is below that one
abbrev pub Covers : ℕ → Option (Bor (List ℕ)) → Type 0
Covers n None = Unit {0}
Covers n (Some above) = length above.now ≡ n

abbrev pub covered : ℕ → Option (Bor (List ℕ)) → List ℕ → List ℕ
covered n None ms = ms
covered n (Some above) ms = map (kept_by above.now ms) (from 0 n) ++ drop n ms

-- planes of n bytes, the outermost taken from another list
abbrev pub under : ℕ → List ℕ → List ℕ → List ℕ
under n top ms = take n top ++ drop n ms
