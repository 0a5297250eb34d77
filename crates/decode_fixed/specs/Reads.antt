-- Redundant by the law fixed_given in decode_fixed/proofs/FixedLaws.antt: what is read (S4.7, S4.8), by positions in the stored bytes s.
-- Once the walk and the check have passed, for n cells below d levels whose masks lie as mf or x says; and what the copying rests on.
-- Assumes nothing.
use Rattle.std.specs.Prelude.{ℕ, ◌+◌, ◌*◌, ◌≤◌, ◌≡◌, List, map, length, drop, replicate}
use Rattle.array.specs.Answer.{gives}
use Rattle.array.specs.Limits.{most_size}
use Rattle.array.specs.Lists.{pieces}
use Rattle.array.specs.Kind.{Masks, Order, fixed, ordered}
use Rattle.array.specs.Content.{Content, layout}
use Rattle.codec.specs.Mask.{MaskForm, mask_form}
use Rattle.stored_frames.specs.Walk.{walked}
use Rattle.stored_frames.specs.Stored.{cells_from, MasksWithin, innermost_count}
use Rattle.decode_planes.specs.Limited.{Limited}
use Rattle.decode_fixed.specs.declared.Found.{Found}

-- ---- fixed values, from where they were found on

unfoldable pub fixed_from : MaskForm → ℕ → Order → ℕ → List ℕ → ℕ → Found → Content
fixed_from mf size o d s n f =
    layout (fixed size o) d (cells_from mf (replicate size 0) d s 0 n (map (ordered o) (pieces size f.cells (drop f.at s))))

pub record FixedFound (x : Masks) (size d : ℕ) (s : List ℕ) (n : ℕ) (f : Found) : Type 0 where
  pub limits : Limited d n
  pub small : size ≤ most_size
  pub walk : walked (mask_form x) d s 0 n ≡ gives (f.at, f.cells)

pub record FixedWithin (x : Masks) (size d : ℕ) (s : List ℕ) (n : ℕ) (f : Found) : Type 0 where
  pub limits : Limited d n
  pub small : size ≤ most_size
  pub masks : MasksWithin (mask_form x) d s 0 n
  pub count : f.cells ≡ innermost_count (mask_form x) d s n
  pub room : f.at + f.cells * size ≤ length s
