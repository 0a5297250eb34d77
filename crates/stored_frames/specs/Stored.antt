-- Redundant by the law read_walked in stored_frames/proofs/Reading.antt: what a walk that was not refused stands for (S4.7, S4.8), by positions.
-- The masks as they are stored, and the cells that they and the values make. mf is how the masks lie.
-- Assumes nothing.
use Rattle.std.specs.Prelude.{ℕ, zero, suc, ◌+◌, ◌≤◌, ◌≡◌, true, List, [], ◌∷◌, length, drop}
use Rattle.array.specs.Answer.{Answer, gives, and_then}
use Rattle.array.specs.Lists.{joined}
use Rattle.array.specs.Cells.{Value, Cell, blank}
use Rattle.codec.specs.Mask.{MaskForm}
use Rattle.codec.specs.Frame.{count_set, expand}
use Rattle.codec.specs.Spread.{placed, innermost_plane}
use Rattle.codec.specs.MaskAt.{stored_mask, said_mask}

-- the mask bytes that the frame of n cells at `at` says
abbrev pub mask_in : MaskForm → List ℕ → ℕ → ℕ → List ℕ
mask_in mf s at n = said_mask mf s (at + 16) n

-- where its content begins
abbrev pub content_at : MaskForm → ℕ → ℕ → ℕ
content_at mf at n = at + (16 + mf.size n)

-- the masks of d levels, each counting the set cells of the one before
unfoldable pub stored_masks : MaskForm → ℕ → List ℕ → ℕ → ℕ → List (List ℕ)
stored_masks mf zero s at n = []
stored_masks mf (suc d) s at n = mask_in mf s at n ∷ stored_masks mf d s (content_at mf at n) (count_set (mask_in mf s at n))

-- the cells, from the innermost values
unfoldable pub cells_from : MaskForm → Value → (d : ℕ) → List ℕ → ℕ → ℕ → List Value → List (Cell d)
cells_from mf z zero s at n vs = vs
cells_from mf z (suc d) s at n vs = expand (blank z d) (mask_in mf s at n) (cells_from mf z d s (content_at mf at n) (count_set (mask_in mf s at n)) vs)

-- the values of the innermost content of so many cells, which r reads
abbrev pub innermost_by : (ℕ → Answer (List Value)) → ℕ → Answer (List Value)
innermost_by r zero = gives []
innermost_by r (suc k) = r (suc k)

-- what a frame's reader answers, by where its innermost content begins and how many cells it has
abbrev pub answer_by : MaskForm → Value → (List ℕ → ℕ → Answer (List Value)) → (d : ℕ) → List ℕ → ℕ → ℕ → ℕ × ℕ → Answer (List (Cell d))
answer_by mf z r d s at n i = and_then (innermost_by (r (drop i.0 s)) i.1) (λ vs. gives (cells_from mf z d s at n vs))

-- the planes below the plane p, laid end to end
unfoldable pub planes_below : MaskForm → List ℕ → ℕ → List ℕ → ℕ → ℕ → List ℕ
planes_below mf p d s at n = joined (placed p (stored_masks mf d s at n))

-- the mask of the frame of n cells at `at` lies within the bytes, and passes its test
pub record MaskPassed (mf : MaskForm) (s : List ℕ) (at n : ℕ) : Type 0 where
  pub room : content_at mf at n ≤ length s
  pub passed : mf.test (stored_mask mf s (at + 16) n) n ≡ true

-- where a level has cells, its mask does so
unfoldable pub MasksWithin : MaskForm → ℕ → List ℕ → ℕ → ℕ → Type 0
MasksWithin mf zero s at n = Unit {0}
MasksWithin mf (suc d) s at n = (1 ≤ n → MaskPassed mf s at n) × MasksWithin mf d s (content_at mf at n) (count_set (mask_in mf s at n))

-- how many cells the innermost content of d levels has, the first frame of n cells at the front
unfoldable pub innermost_count : MaskForm → ℕ → List ℕ → ℕ → ℕ
innermost_count mf zero s n = n
innermost_count mf (suc d) s n = count_set (innermost_plane (mask_in mf s 0 n) (stored_masks mf d s (content_at mf 0 n) (count_set (mask_in mf s 0 n))))
