-- Redundant by the law seen_is in guest_read/proofs/Seen.antt: what a guest sees of an array (S14.3), by cell numbers.
-- Assumes nothing.
use Rattle.std.specs.Prelude.{ℕ, Bool, ◌&&◌, List, map, length}
use Rattle.array.specs.Lists.{from, pick, joined, passing}
use Rattle.array.specs.Kind.{Form, null_of}
use Rattle.array.specs.Content.{Content}
use Rattle.array.specs.Outcome.{content_array}
use Rattle.array.specs.Places.{bytes_at, offset_at, value_in, values_at, shown_at, laid_by}
use Rattle.live_cells.specs.Live.{live_at}
use Rattle.rest_masks.specs.Rested.{rest_mask}
use Rattle.rights.specs.Rights.{permits, cleared}
use Rattle.guest_read.specs.declared.guest.Guest.{Guest}

-- cell j is shown by the plane and by all its masks
abbrev pub seen_at : ℕ → List ℕ → List ℕ → ℕ → ℕ → Bool
seen_at n rights ms d j = permits rights j && shown_at n ms d j

-- n cells of d levels
abbrev pub seen_content : Form → ℕ → ℕ → List ℕ → Content → Content
seen_content f d n rights c =
    laid_by f d (rest_mask n (cleared rights c.masks)) (λ j. pick (shown_at n (cleared rights c.masks) d j) (value_in f c j) (null_of f)) (from 0 n)

-- where cell j begins, of cells that lie end to end, those that t shows
abbrev pub place_by : (ℕ → Bool) → List ℕ → ℕ → ℕ
place_by t os j = bytes_at (offset_at os) (passing t (from 0 j))

abbrev pub places_by : (ℕ → Bool) → List ℕ → ℕ → List ℕ
places_by t os n = map (place_by t os) (from 0 n)

-- their bytes, of those that a plane shows
abbrev pub shown_by : List ℕ → List ℕ → List ℕ → List ℕ
shown_by plane vs os = joined (values_at (offset_at os) vs (live_at (length plane) plane 1))

-- ---- the same by the guest: the cells that it sees, how many value bytes they have, the masks under its plane, and all

abbrev pub sees : Guest → ℕ → Bool
sees g = seen_at g.level.cells g.rights.now g.level.masks.now g.level.depth

abbrev pub bytes_seen : Guest → List ℕ → ℕ
bytes_seen g os = bytes_at (offset_at os) (passing (sees g) (from 0 g.level.cells))

abbrev pub masks_seen : Guest → List ℕ
masks_seen g = cleared g.rights.now g.level.masks.now

abbrev pub seen_of : Form → Guest → List ℕ → List ℕ → Content
seen_of f g vs os = seen_content f g.level.depth g.level.cells g.rights.now (content_array g.level.masks.now vs os)
