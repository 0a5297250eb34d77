-- Redundant by the laws masks_are and leaves_are in decode_planes/proofs/AllPlanes.antt: mask planes (S1.5, S4.8) as they are read.
-- By positions in the stored bytes, outermost first; and what their placing rests on.
-- Assumes nothing.
use Rattle.std.specs.Prelude.{ℕ, ◌+◌, ◌-◌, ◌*◌, ◌≤◌, ◌≡◌, List, ◌++◌, length, take, drop}
use Rattle.array.specs.Kind.{Masks}
use Rattle.codec.specs.Mask.{MaskForm, mask_form}
use Rattle.codec.specs.Frame.{count_set}
use Rattle.codec.specs.Spread.{innermost_plane}
use Rattle.stored_frames.specs.Stored.{mask_in, content_at, stored_masks, planes_below, MasksWithin}

-- the planes of d + 1 levels of n cells, the first frame at the front of s, and the innermost of them
abbrev pub planes_in : MaskForm → List ℕ → ℕ → ℕ → List ℕ
planes_in mf s n d = mask_in mf s 0 n ++ planes_below mf (mask_in mf s 0 n) d s (content_at mf 0 n) (count_set (mask_in mf s 0 n))

abbrev pub innermost_in : MaskForm → List ℕ → ℕ → ℕ → List ℕ
innermost_in mf s n d = innermost_plane (mask_in mf s 0 n) (stored_masks mf d s (content_at mf 0 n) (count_set (mask_in mf s 0 n)))

-- the plane of n cells at `from`, in which `cells` are set, and behind it the one at `to`
pub record LaidWithin (masks : List ℕ) (from to n cells : ℕ) : Type 0 where
  pub apart : from + n ≤ to
  pub room : to + n ≤ length masks
  pub count : cells ≡ count_set (take n (drop from masks))

-- the same, where the stored mask of the plane at `to` is at `at`
pub record PlaneWithin (x : Masks) (masks : List ℕ) (from to n : ℕ) (s : List ℕ) (at cells : ℕ) : Type 0 where
  pub planes : LaidWithin masks from to n cells
  pub stored : at + (mask_form x).size cells ≤ length s

-- `left` levels below the plane that ends at `to`, in which `cells` are set, the next frame being at `at`
pub record LevelsWithin (x : Masks) (masks : List ℕ) (n to left : ℕ) (s : List ℕ) (at cells : ℕ) : Type 0 where
  pub above : n ≤ to
  pub room : to + left * n ≤ length masks
  pub count : cells ≡ count_set (take n (drop (to - n) masks))
  pub within : MasksWithin (mask_form x) left s at cells

-- All levels, the first frame at the front of s. Like those above it is of masks that are written to, and each stands in one contract.
pub record PlanesWithin (x : Masks) (masks : List ℕ) (n depth : ℕ) (s : List ℕ) : Type 0 where
  pub some : 1 ≤ n
  pub deep : 1 ≤ depth
  pub room : depth * n ≤ length masks
  pub within : MasksWithin (mask_form x) depth s 0 n
