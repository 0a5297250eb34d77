-- Redundant by the contract of `arrangement::arrangement`, arrangement/src/lib.rt: an arrangement by the states of its cells (S15.2).
-- Assumes nothing.
use Rattle.std.specs.Prelude.{ℕ, List, map}
use Rattle.array.specs.Lists.{from}
use Rattle.array.specs.Offsets.{offsets_of}
use Rattle.array.specs.Content.{Content}
use Rattle.arrange.specs.Arrangement.{arrangement}
use Rattle.arrange.specs.Places.{state_at, mask_in, value_in}
use Rattle.arrangement.specs.declared.states.States.{States}

-- the arrangement that they are of
abbrev pub stated : States → Content
stated s = arrangement s.depth s.cells s.number

-- the mask byte of cell j at level l
abbrev pub mask_by : States → ℕ → ℕ → ℕ
mask_by s l j = mask_in (state_at s.depth s.cells s.number j) l

-- where each value begins and the last one ends
abbrev pub ends_of : States → List ℕ
ends_of s = offsets_of (map (λ j. value_in s.depth (state_at s.depth s.cells s.number j)) (from 0 s.cells))
