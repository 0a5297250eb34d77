-- Redundant by the law arrangement_laid in arrange/proofs/Places.antt: an arrangement (S15.2) by the numbers of its cells, plane by plane.
-- Assumes nothing.
use Rattle.std.specs.Prelude.{ℕ, suc, ◌-◌, ◌/◌, ◌%◌, ◌^◌, replicate, ltb}
use Rattle.array.specs.Lists.{from, pick}
use Rattle.array.specs.Cells.{Value}
use Rattle.array.specs.Content.{Content}
use Rattle.array.specs.Places.{laid_by}
use Rattle.arrange.specs.Arrangement.{states, any_ragged}

-- the state of cell j of n in number k: a digit, the highest first
abbrev pub state_at : ℕ → ℕ → ℕ → ℕ → ℕ
state_at d n k j = k / states d ^ (n - suc j) % states d

-- what state i has at level l: as many levels as it says are set; and its value: it has so many bytes as the state is above the depth
abbrev pub mask_in : ℕ → ℕ → ℕ
mask_in i l = pick (ltb l i) 1 0

abbrev pub value_in : ℕ → ℕ → Value
value_in d i = replicate (i - d) 0

abbrev pub laid_arrangement : ℕ → ℕ → ℕ → Content
laid_arrangement d n k = laid_by any_ragged d (λ l j. mask_in (state_at d n k j) l) (λ j. value_in d (state_at d n k j)) (from 0 n)
