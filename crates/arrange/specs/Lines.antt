-- docs/SPEC.md, S10.52 to S10.54: arrangements worked out by hand. All states of one cell, two cells, and the refusals in their order.
-- Assumes nothing.
use Rattle.std.specs.Prelude.{ℕ, ◌≡◌, List, [], ◌∷◌}
use Rattle.array.specs.Answer.{gives, refuses, Outcome}
use Rattle.array.specs.Content.{Content}
use Rattle.array.specs.declared.answer.Lengths.{Lengths}
use Rattle.arrange.specs.Arrangement.{arrangement}
use Rattle.arrange.specs.Calls.{arranged}

abbrev pub array : List ℕ → List ℕ → List ℕ → Content
array ms vs os = record { masks = ms; values = vs; offsets = os }

abbrev pub lent : Content
lent = array (9 ∷ 9 ∷ 9 ∷ []) (9 ∷ 9 ∷ 9 ∷ []) (9 ∷ 9 ∷ 9 ∷ [])

-- nothing is stored
abbrev pub keeps : ℕ → Content → Outcome Lengths Content
keeps number out = record { answer = refuses number; buffers = out }

pub record Lines : Type 0 where
  -- depth 2, one cell: null at the outermost level, null at the next, then all set
  pub outer_null : arrangement 2 1 0 ≡ array (0 ∷ 0 ∷ []) [] (0 ∷ 0 ∷ [])
  pub inner_null : arrangement 2 1 1 ≡ array (1 ∷ 0 ∷ []) [] (0 ∷ 0 ∷ [])
  pub empty : arrangement 2 1 2 ≡ array (1 ∷ 1 ∷ []) [] (0 ∷ 0 ∷ [])
  pub longest : arrangement 2 1 5 ≡ array (1 ∷ 1 ∷ []) (0 ∷ 0 ∷ 0 ∷ []) (0 ∷ 3 ∷ [])
  -- two cells, 8 = 1 × 6 + 2: the first weighs most, and planes lie plane by plane
  pub two_cells : arrangement 2 2 8 ≡ array (1 ∷ 1 ∷ 0 ∷ 1 ∷ []) [] (0 ∷ 0 ∷ 0 ∷ [])
  -- the first and the last of four cells
  pub first : arrangement 0 4 0 ≡ array [] [] (0 ∷ 0 ∷ 0 ∷ 0 ∷ 0 ∷ [])
  pub last : arrangement 1 4 624 ≡ array (1 ∷ 1 ∷ 1 ∷ 1 ∷ []) (0 ∷ 0 ∷ 0 ∷ 0 ∷ 0 ∷ 0 ∷ 0 ∷ 0 ∷ 0 ∷ 0 ∷ 0 ∷ 0 ∷ []) (0 ∷ 3 ∷ 6 ∷ 9 ∷ 12 ∷ [])
  -- what lies beyond stays
  pub beyond : arranged 1 2 13 lent ≡ record { answer = gives (record { masks = 2; values = 3; offsets = 3 }); buffers = array (1 ∷ 1 ∷ 9 ∷ []) (0 ∷ 0 ∷ 0 ∷ []) (0 ∷ 1 ∷ 3 ∷ []) }
  -- 1 for depth 3, no cells, five cells; then 19; then 6
  pub depth_3 : arranged 3 1 99 lent ≡ keeps 1 lent
  pub no_cells : arranged 0 0 0 lent ≡ keeps 1 lent
  pub five_cells : arranged 0 5 0 lent ≡ keeps 1 lent
  pub past : arranged 0 1 4 (array [] [] []) ≡ keeps 19 (array [] [] [])
  pub no_room : arranged 0 2 15 lent ≡ keeps 6 lent
