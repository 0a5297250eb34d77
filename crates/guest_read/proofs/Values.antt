-- The values of what is seen: how many bytes, and that what the innermost plane shows, as it is written, are they.
-- Assumes nothing.
use mathlib.Core.Path.{◌≡◌, refl, sym, ap, ◌∙◌}
use mathlib.Core.Bool.{Bool, true, false}
use mathlib.Core.List.{List, [], ◌++◌, map}
use Rattle.std.specs.Prelude.{Some}
use Prim.Native.Nat.{ℕ, suc, ◌+◌, ◌*◌, ◌≤◌, ◌<◌}
use native.Mathlib.Nat.{one-mul, mul-le-mul_right}
use native.Mathlib.Numerals.{add-one}
use native.Mathlib.Omega.{arith}
use lib.ListN.{length, get_or, drop, replicate, length-map, length-replicate}
use Rattle.array.specs.Lists.{from, pick, joined, passing}
use Rattle.array.specs.Kind.{Form, fixed, ragged, little, at_start}
use Rattle.array.specs.Cells.{Value, set_test}
use Rattle.array.specs.Content.{Content, ValuesOk}
use Rattle.array.specs.Outcome.{content_array}
use Rattle.array.specs.Places.{fixed_at, value_at, values_at, offset_at, bytes_at, shown_at}
use Rattle.array.proofs.Lists.{map-from, length_from_lem, length-joined, All-image}
use Rattle.array.proofs.Geometry.{All-from, passing_cong}
use Rattle.array.proofs.Numbered.{value_sized}
use Rattle.array.proofs.Offsets.{length-ends}
use Rattle.live_cells.specs.Live.{live_at}
use Rattle.rest_masks.specs.Rested.{rest_mask, kept_by, covered}
use Rattle.rest_masks.proofs.Descending.{length_planes}
use Rattle.encode_data.specs.Offsets.{Offsets}
use Rattle.encode_data.proofs.Spans.{ends-within, values_long}
use Rattle.encode_data.proofs.Summing.{bytes_le}
use Rattle.encode_data.proofs.Shown.{shown_bytes, shown_offsets}
use Rattle.shown_cells.specs.Shown.{shown_values}
use Rattle.rights.proofs.Cleared.{cleared_is}
use Rattle.guest_read.specs.declared.guest.Guest.{Guest}
use Rattle.guest_read.specs.Seen.{sees, bytes_seen, masks_seen, seen_of, places_by, shown_by}
use Rattle.guest_read.proofs.Seen.{seen_shown}

same_passing : (t u : ℕ → Bool) (n : ℕ) → ((j : ℕ) → j < n → t j ≡ u j) → passing t (from 0 n) ≡ passing u (from 0 n)
same_passing t u n e = passing_cong t u (from 0 n) (All-from (λ j. t j ≡ u j) 0 n (λ j a b. e j (omega arith)))

-- ---- masks

pub masks_long : (f : Form) (g : Guest) (vs os : List ℕ) → length (seen_of f g vs os).masks ≡ g.level.depth * g.level.cells
masks_long f g vs os = length_planes (rest_mask g.level.cells (masks_seen g)) g.level.cells g.level.depth 0

-- one level at least, so one plane
pub one_plane : (g : Guest) → g.level.cells ≤ g.level.depth * g.level.cells
one_plane g = omega (arith, mul-le-mul_right {m = 1} {n = g.level.depth} g.level.cells g.masked, one-mul g.level.cells)

-- what the plane covers is cleared
pub covered_cleared : (g : Guest) → covered g.level.cells (Some g.rights) g.level.masks.now ≡ masks_seen g
covered_cleared g =
    let n : ℕ = g.level.cells in
    let ms : List ℕ = g.level.masks.now in
    ap (λ (m : ℕ). map (kept_by g.rights.now ms) (from 0 m) ++ drop m ms) (sym g.counted)
    ∙ sym (cleared_is g.rights.now ms (omega (arith, g.counted, g.level.planes, one_plane g)))

-- ---- values of one size

module _ (size : ℕ) (g : Guest) (vs : List ℕ) (v : length vs ≡ g.level.cells * size) where
  abbrev one_size : Content
  one_size = content_array g.level.masks.now vs []

  pub fixed_long : length (seen_of (fixed size little) g vs []).values ≡ length vs
  fixed_long =
      let n : ℕ = g.level.cells in
      let shows : ℕ → Bool = shown_at n (masks_seen g) g.level.depth in
      let w : ℕ → Value = λ j. pick (shows j) (value_at (fixed_at 0 size) vs j) (replicate size 0) in
      length-joined size (map w (from 0 n))
      (All-image (λ x. length x ≡ size) w (from 0 n) (All-from (λ j. length (w j) ≡ size) 0 n (λ j l h. one j (omega arith) (shows j))))
      ∙ ap (λ (m : ℕ). m * size) (length-map (from 0 n) w ∙ length_from_lem 0 n) ∙ sym v
    where
      one : (j : ℕ) → j < g.level.cells → (b : Bool) → length (pick b (value_at (fixed_at 0 size) vs j) (replicate size 0)) ≡ size
      one j h true = value_sized (fixed size little) g.level.cells one_size (v, refl) j h
      one j h false = length-replicate size 0

  pub fixed_seen : (plane : List ℕ) → length plane ≡ g.level.cells
      → ((j : ℕ) → j < g.level.cells → set_test (get_or plane j 0) ≡ shown_at g.level.cells (masks_seen g) g.level.depth j)
      → shown_values size vs plane ≡ (seen_of (fixed size little) g vs []).values
  fixed_seen plane long e =
      ap (λ (m : ℕ). joined (map (λ j. pick (set_test (get_or plane j 0)) (value_at (fixed_at 0 size) vs j) (replicate size 0)) (from 0 m))) long
      ∙ ap joined (map-from _ _ 0 g.level.cells (λ j h. ap (λ (b : Bool). pick b (value_at (fixed_at 0 size) vs j) (replicate size 0)) (e j (omega arith))))

-- ---- ragged values

module _ (g : Guest) (vs os : List ℕ) (v : ValuesOk (ragged 8 at_start) g.level.cells (content_array g.level.masks.now vs os)) where
  abbrev n : ℕ
  n = g.level.cells

  abbrev shows : ℕ → Bool
  shows = shown_at n (masks_seen g) g.level.depth

  pub offsets_ok : Offsets n os
  offsets_ok = record { counted = v.0; rising = v.1 }

  -- the values by the cells that are live
  live_values_lem : (seen_of (ragged 8 at_start) g vs os).values ≡ joined (values_at (offset_at os) vs (live_at n (masks_seen g) g.level.depth))
  live_values_lem = shown_bytes shows (value_at (offset_at os) vs) (from 0 n)

  pub ragged_long : length (seen_of (ragged 8 at_start) g vs os).values ≡ bytes_seen g os
  ragged_long =
      ap length live_values_lem ∙ values_long (masks_seen g) g.level.depth offsets_ok vs v.2
      ∙ ap (bytes_at (offset_at os)) (same_passing shows (sees g) n (seen_shown g.rights.now g.level.masks.now g.masked g.counted))

  -- no more than all values
  pub ragged_most : bytes_seen g os ≤ length vs
  ragged_most = omega (arith, v.2, bytes_le offsets_ok (sees g))

  pub offsets_long : length (seen_of (ragged 8 at_start) g vs os).offsets ≡ n + 1
  offsets_long =
      let w : ℕ → Value = λ j. pick (shows j) (value_at (offset_at os) vs j) [] in
      ap suc (length-ends 0 (map w (from 0 n)) ∙ length-map (from 0 n) w ∙ length_from_lem 0 n) ∙ sym (add-one n)

  module _ (plane : List ℕ) (long : length plane ≡ n) (e : (j : ℕ) → j < n → shown_at n plane 1 j ≡ shows j) where
    pub plane_values : shown_by plane vs os ≡ (seen_of (ragged 8 at_start) g vs os).values
    plane_values =
        ap (λ (m : ℕ). joined (values_at (offset_at os) vs (live_at m plane 1))) long
        ∙ ap (λ (js : List ℕ). joined (values_at (offset_at os) vs js)) (same_passing (shown_at n plane 1) shows n e) ∙ sym live_values_lem

    pub plane_offsets : places_by (shown_at (length plane) plane 1) os (length plane + 1) ≡ (seen_of (ragged 8 at_start) g vs os).offsets
    plane_offsets =
        ap (λ (m : ℕ). places_by (shown_at m plane 1) os (m + 1)) long
        ∙ map-from _ (λ j. bytes_at (offset_at os) (passing shows (from 0 j))) 0 (n + 1)
        (λ j h. ap (bytes_at (offset_at os)) (same_passing (shown_at n plane 1) shows j (λ i l. e i (omega arith))))
        ∙ ap (λ (m : ℕ). map (λ j. bytes_at (offset_at os) (passing shows (from 0 j))) (from 0 m)) (add-one n)
        ∙ sym (shown_offsets offsets_ok vs (ends-within offsets_ok v.2) shows)
