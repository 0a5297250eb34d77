-- Redundant by the law body_is in stored_frames/proofs/Reading.antt: a stored mask (S4.11 to S4.14) by its place, over its form.
-- Assumes nothing.
use Rattle.std.specs.Prelude.{ℕ, List, take, drop}
use Rattle.codec.specs.Mask.{MaskForm}

-- the stored mask of n cells at `at`, and the mask bytes that it says
abbrev pub stored_mask : MaskForm → List ℕ → ℕ → ℕ → List ℕ
stored_mask mf s at n = take (mf.size n) (drop at s)

abbrev pub said_mask : MaskForm → List ℕ → ℕ → ℕ → List ℕ
said_mask mf s at n = mf.said (stored_mask mf s at n) n
