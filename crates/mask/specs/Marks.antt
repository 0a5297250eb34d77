-- Redundant by the law body_is in stored_frames/proofs/Reading.antt: how many cells a stored mask (S4.11 to S4.14) sets, over its form.
-- Assumes nothing.
use Rattle.std.specs.Prelude.{ℕ, List}
use Rattle.array.specs.Answer.{Answer, gives, and_then}
use Rattle.codec.specs.Mask.{MaskForm, get_mask}
use Rattle.codec.specs.Frame.{count_set}

-- the stored mask of n cells, got back or refused: how many of them it sets
abbrev pub counted_in : MaskForm → List ℕ → ℕ → Answer ℕ
counted_in mf mask n = and_then (get_mask mf mask n) (λ ms. gives (count_set ms))
