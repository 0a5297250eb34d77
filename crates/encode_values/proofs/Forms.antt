-- The two forms of values, as the code tells them apart, and what is known of them at a level.
-- Assumes nothing.
use mathlib.Core.Path.{◌≡◌, refl, sym, ap, ap₂, ◌∙◌, subst}
use Prim.Native.Nat.{ℕ, suc, ◌+◌, ◌*◌, ◌≤◌}
use native.Mathlib.Nat.{le_of_eq, zero-mul}
use native.Mathlib.Numerals.{add-one}
use native.Mathlib.Omega.{arith}
use mathlib.Core.List.{List, map}
use lib.ListN.{length, get_or}
use Rattle.array.specs.declared.kind.ByteOrder.{ByteOrder}
use Rattle.array.specs.declared.kind.IndexWidth.{IndexWidth}
use Rattle.array.specs.declared.kind.IndexWidth.TheVariants.{Four, Eight}
use Rattle.array.specs.declared.kind.IndexPlace.{IndexPlace}
use Rattle.array.specs.declared.kind.Kind as declared
use Rattle.array.specs.declared.kind.Values.{Values}
use Rattle.array.specs.declared.kind.Values.TheVariants.{Fixed, Ragged}
use Rattle.array.specs.Limits.{most_bytes, most_cells}
use Rattle.array.specs.Lists.{from, joined, pieces}
use Rattle.codec.specs.Mask.{mask_form}
use Rattle.codec.proofs.Masks.{mask_laws}
use Rattle.array.specs.Kind.{Kind, Masks, Form, fixed, ragged, FormOk, ordered}
use Rattle.array.specs.Meaning.{order_of, width_of, place_of, form_of, kind_of}
use Rattle.array.specs.Offsets.{last, Rising}
use Rattle.array.specs.Cells.{Value}
use Rattle.array.specs.Content.{Content, ValuesOk}
use Rattle.array.specs.Places.{fixed_at, offset_at, value_in, values_at, bytes_at, shown_at}
use Rattle.array.proofs.Numbered.{pieces_are, values_are}
use Rattle.codec.specs.Ragged.{put_ragged}
use Rattle.codec.specs.Values.{put_values}
use Rattle.codec.proofs.Flat.{flat-put}
use Rattle.live_cells.specs.Live.{live_at, Planes}
use Rattle.live_cells.specs.declared.Counted.{Counted}
use Rattle.encode_data.specs.Offsets.{Offsets}
use Rattle.encode_values.specs.Ready.{MeasuresOk, Measured, Encodable}
use Rattle.encode_values.specs.Stored.{values_from, values_length_at, length_from}
use Rattle.live_cells.proofs.Levels.{level_count}
use Rattle.live_cells.proofs.Runs.{live-le, live_all}
use Rattle.encode_cells.proofs.Packing.{fixed_long}
use Rattle.live_cells.proofs.LiveMarks.{count_all}
use Rattle.encode_data.proofs.Spans.{all_bytes}
use Rattle.encode_values.proofs.Levels.{level_room, NarrowOk, values_small, length_none, length_values, length-frame, length_small, flat-length}

-- ---- the masks of all levels

module _ {k : Kind} {n : ℕ} {c : Content} (r : Encodable k n c) where
  pub encodable_planes : Planes n c.masks k.depth
  encodable_planes = record { shallow = r.kind.shallow; few = r.few; planes = le_of_eq (sym r.content.masks_fit) }

  -- what can be written can be measured
  pub encodable_measured : Measured k n c.masks c.offsets
  encodable_measured = record {
    shallow = r.kind.shallow;
    some = r.some;
    few = r.few;
    planes = encodable_planes.planes;
    sizes = sizes k.form r.kind.sound r.content.values_fit;
  }
    where
      sizes : (f : Form) → FormOk f → ValuesOk f n c → MeasuresOk f n c.offsets
      sizes (fixed s o) p q = p.1
      sizes (ragged w l) p q = (q.0, q.1, subst (λ (m : ℕ). m ≤ most_bytes) (sym q.2) r.small)

-- ---- the width of a declared kind

pub narrow_of : (v : Values) → NarrowOk (form_of v)
narrow_of (Fixed s o) = tt
narrow_of (Ragged Four p) = omega arith
narrow_of (Ragged Eight p) = omega arith

-- ---- how long what is written is

pub mask_small : (x : Masks) (c : Counted) → (mask_form x).size c.count ≤ c.level.cells
mask_small x c = omega (arith, (mask_laws x).size_le c.count, c.counted, live-le c.level.cells c.level.masks.now c.level.depth)

pub length_fits : (k : declared.Kind) {n : ℕ} {masks os : List ℕ} → Measured (kind_of k) n masks os → (left : ℕ)
    → length_from (kind_of k) n masks os left ≤ suc left * level_room
length_fits k m left = length_small (narrow_of k.values) m left

-- what is written of a level, case by case
pub ruleset length_laws = (level_count, length_none, length_values, length-frame, mask_small, length_fits)

-- ---- how long values are

module _ (k : declared.Kind) {n : ℕ} {masks os : List ℕ} (m : Measured (kind_of k) n masks os) {count : ℕ} (ec : count ≡ length (live_at n masks k.depth)) where
  -- the cells that every level sets
  abbrev live : List ℕ
  live = live_at n masks k.depth

  values_fit : values_length_at (form_of k.values) os live ≤ level_room
  values_fit = values_small (form_of k.values) n masks os k.depth (narrow_of k.values) m.few m.sizes

  pub count_small : count ≤ 65536
  unfolding most_cells
  count_small = omega (arith, m.few, live-le n masks k.depth)

  module _ {s : ℕ} {o : ByteOrder} (e : k.values ≡ Fixed s o) where
    pub fixed_length : count * s ≡ values_length_at (form_of k.values) os live
    fixed_length = ap (λ (j : ℕ). j * s) ec ∙ ap (λ (v : Values). values_length_at (form_of v) os live) (sym e)

    pub fixed_small : count * s ≤ level_room
    fixed_small = omega (arith, fixed_length, values_fit)

  module _ {w : IndexWidth} {p : IndexPlace} (e : k.values ≡ Ragged w p) where
    sizes : (length os ≡ suc n) × Rising os × (last os ≤ most_bytes)
    sizes = subst (λ (v : Values). MeasuresOk (form_of v) n os) e m.sizes

    pub ragged_offsets : Offsets n os
    ragged_offsets = record { counted = sizes.0; rising = sizes.1 }

    module _ {j : ℕ} (ej : j ≡ width_of w) {bytes : ℕ} (eb : bytes ≡ bytes_at (offset_at os) live) where
      pub ragged_length_lem : 8 + j * (count + 1) + bytes ≡ values_length_at (form_of k.values) os live
      ragged_length_lem =
          ap₂ (λ (a b : ℕ). 8 + a + b) (ap₂ (λ (a b : ℕ). a * b) ej (add-one count ∙ ap suc ec)) eb
          ∙ ap (λ (v : Values). values_length_at (form_of v) os live) (sym e)

      pub ragged_small : 8 + j * (count + 1) + bytes ≤ level_room
      ragged_small = omega (arith, ragged_length_lem, values_fit)

-- ---- the same at depth 0, where all cells count

module _ (k : declared.Kind) (z : k.depth ≡ 0) {n : ℕ} {masks os : List ℕ} (m : Measured (kind_of k) n masks os) where
  all : n ≡ length (live_at n masks k.depth)
  all = count_all n masks z

  is : values_length_at (form_of k.values) os (live_at n masks k.depth) ≡ length_from (kind_of k) n masks os k.depth
  is = flat-length (kind_of k) z m.some masks os

  module _ {s : ℕ} {o : ByteOrder} (e : k.values ≡ Fixed s o) where
    pub flat_fixed : n * s ≡ length_from (kind_of k) n masks os k.depth
    flat_fixed = fixed_length k m all e ∙ is

    pub flat_fixed_small : n * s ≤ level_room
    flat_fixed_small = fixed_small k m all e

  module _ {w : IndexWidth} {p : IndexPlace} (e : k.values ≡ Ragged w p) {j : ℕ} (ej : j ≡ width_of w) where
    pub flat_offsets : Offsets n os
    flat_offsets = ragged_offsets k m all e

    -- the last offset counts all value bytes
    bytes : get_or os n 0 ≡ bytes_at (offset_at os) (live_at n masks k.depth)
    bytes = all_bytes flat_offsets masks k.depth all refl

    pub flat_ragged : 8 + j * (n + 1) + get_or os n 0 ≡ length_from (kind_of k) n masks os k.depth
    flat_ragged = ragged_length_lem k m all e ej bytes ∙ is

    pub flat_ragged_small : 8 + j * (n + 1) + get_or os n 0 ≤ level_room
    flat_ragged_small = ragged_small k m all e ej bytes

pub ruleset flat_laws = (flat_fixed, flat_fixed_small, flat_ragged, flat_ragged_small)

-- ---- what is written of them

module _ (k : declared.Kind) {n : ℕ} {c : Content} (r : Encodable (kind_of k) n c) where
  all_cells : k.depth ≡ 0 → from 0 n ≡ live_at n c.masks k.depth
  all_cells z = sym (live_all n c.masks) ∙ ap (live_at n c.masks) (sym z)

  module _ {s : ℕ} {o : ByteOrder} (e : k.values ≡ Fixed s o) where
    fixed_fits : length c.values ≡ n * s
    fixed_fits = (subst (λ (v : Values). ValuesOk (form_of v) n c) e r.content.values_fit).0

    pub fixed_source : n * s ≤ length c.values
    fixed_source = omega (arith, fixed_fits)

    -- as the kind says
    pub fixed_writes : {ms : List ℕ} → ms ≡ c.masks → {l : ℕ} → l ≡ k.depth
        → put_values (fixed s (order_of o)) (values_at (fixed_at 0 s) c.values (live_at n ms l)) ≡ values_from (kind_of k) n c
    fixed_writes {ms} em {l} el =
        ap (λ (v : Values). put_values (form_of v) (map (value_in (form_of v) c) (live_at n ms l))) (sym e)
        ∙ ap₂ (λ (m : List ℕ) (d : ℕ). put_values (form_of k.values) (map (value_in (form_of k.values) c) (live_at n m d))) em el

    -- at depth 0 all cells
    pub fixed_all : k.depth ≡ 0 → joined (map (ordered (order_of o)) (pieces s n c.values)) ≡ values_from (kind_of k) n c
    unfolding put_values
    fixed_all z =
        ap (λ (vs : List Value). joined (map (ordered (order_of o)) vs))
        (pieces_are 0 s n 0 c.values {at = 0} (omega (arith, zero-mul s)) ∙ ap (values_at (fixed_at 0 s) c.values) (all_cells z))
        ∙ fixed_writes refl refl

    pub fixed_wrote : {ms : List ℕ} → ms ≡ c.masks → {l : ℕ} → l ≡ k.depth → {count : ℕ} → count ≡ length (live_at n ms l) → count * s ≡ length (values_from (kind_of k) n c)
    fixed_wrote {ms} em {l} el ec = ap (λ (j : ℕ). j * s) ec ∙ sym (fixed_long (order_of o) s c.values (shown_at n ms l) n fixed_source) ∙ ap length (fixed_writes em el)

  module _ {w : IndexWidth} {p : IndexPlace} (e : k.values ≡ Ragged w p) where
    fits : (length c.offsets ≡ suc n) × Rising c.offsets × (last c.offsets ≡ length c.values)
    fits = subst (λ (v : Values). ValuesOk (form_of v) n c) e r.content.values_fit

    pub offsets_fit : Offsets n c.offsets
    offsets_fit = record { counted = fits.0; rising = fits.1 }

    pub offsets_end : last c.offsets ≡ length c.values
    offsets_end = fits.2

    pub ragged_writes : {ms : List ℕ} → ms ≡ c.masks → {l : ℕ} → l ≡ k.depth
        → put_values (ragged (width_of w) (place_of p)) (values_at (offset_at c.offsets) c.values (live_at n ms l)) ≡ values_from (kind_of k) n c
    ragged_writes {ms} em {l} el =
        ap (λ (v : Values). put_values (form_of v) (map (value_in (form_of v) c) (live_at n ms l))) (sym e)
        ∙ ap₂ (λ (m : List ℕ) (d : ℕ). put_values (form_of k.values) (map (value_in (form_of k.values) c) (live_at n m d))) em el

    -- at depth 0 with all cells, as they lie
    pub ragged_all : k.depth ≡ 0 → put_ragged (width_of w) (place_of p) (record { values = c.values; offsets = c.offsets }) ≡ values_from (kind_of k) n c
    ragged_all z =
        sym (flat-put (width_of w) (place_of p) (record { values = c.values; offsets = c.offsets }) fits.0 fits.1 fits.2)
        ∙ ap (put_values (ragged (width_of w) (place_of p))) (values_are (ragged (width_of w) (place_of p)) n c fits)
        ∙ ap (λ (is : List ℕ). put_values (ragged (width_of w) (place_of p)) (values_at (offset_at c.offsets) c.values is)) (all_cells z)
        ∙ ragged_writes refl refl
