-- Redundant by the law stored_by in encode/proofs/Walk.antt: the stored form (S4.6 to S4.10), by the numbers of the cells.
-- What is written with so many levels left; with all of them left it is the stored form. How long it is: stored_long in encode_values/proofs/Levels.antt.
-- Assumes nothing.
use Rattle.std.specs.Prelude.{ℕ, zero, suc, ◌+◌, ◌-◌, ◌*◌, List, map, length}
use Rattle.array.specs.Kind.{Kind, Form, fixed, ragged}
use Rattle.array.specs.Content.{Content}
use Rattle.array.specs.Places.{offset_at, value_in, bytes_at, masks_at}
use Rattle.codec.specs.Mask.{mask_form}
use Rattle.codec.specs.Frame.{unless_none, wrap}
use Rattle.codec.specs.Values.{put_values}
use Rattle.codec.specs.Length.{ragged_length}
use Rattle.live_cells.specs.Live.{live_at, live_mask}

-- the level that has so many levels left, itself among them
abbrev pub level_of : Kind → ℕ → ℕ
level_of k left = k.depth - left

-- the values of the cells that every level sets
abbrev pub values_from : Kind → ℕ → Content → List ℕ
values_from k n c = put_values k.form (map (value_in k.form c) (live_at n c.masks k.depth))

-- a content of the cells that a level counts: a frame, or the values; nothing where no cell is left
unfoldable pub stored_from : Kind → ℕ → Content → (left : ℕ) → List ℕ
stored_from k n c zero = unless_none (λ is. put_values k.form (map (value_in k.form c) is)) (live_at n c.masks k.depth)
stored_from k n c (suc left) =
    unless_none (λ is. wrap ((mask_form k.masks).put (masks_at n c.masks (level_of k (suc left)) is)) (stored_from k n c left)) (live_at n c.masks (level_of k (suc left)))

-- the stored mask of a level, and its frame
abbrev pub mask_from : Kind → ℕ → Content → ℕ → List ℕ
mask_from k n c left = live_mask k.masks n c.masks (level_of k left)

abbrev pub frame_from : Kind → ℕ → Content → ℕ → List ℕ
frame_from k n c left = wrap (mask_from k n c left) (stored_from k n c (left - 1))

-- ---- the written length: the sum over the levels, outermost first

-- nothing where no cell is left
abbrev pub or_nothing : ℕ → ℕ → ℕ
or_nothing zero x = 0
or_nothing (suc k) x = x

abbrev pub values_length_at : Form → List ℕ → List ℕ → ℕ
values_length_at (fixed k o) os is = length is * k
values_length_at (ragged w p) os is = ragged_length w (length is) (bytes_at (offset_at os) is)

unfoldable pub length_from : Kind → ℕ → List ℕ → List ℕ → (left : ℕ) → ℕ
length_from k n masks os zero = or_nothing (length (live_at n masks k.depth)) (values_length_at k.form os (live_at n masks k.depth))
length_from k n masks os (suc left) =
    let count = length (live_at n masks (level_of k (suc left))) in
    or_nothing count (16 + (mask_form k.masks).size count + length_from k n masks os left)
