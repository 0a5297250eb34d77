-- Ragged values of the cells that a level counts: how long they are when written, and where their parts lie.
-- Assumes nothing.
use mathlib.Core.Path.{◌≡◌, refl, sym, ap, ap₂, ◌∙◌}
use Prim.Native.Nat.{ℕ, suc, ◌+◌, ◌*◌, ◌<◌, ◌≤◌}
use native.Mathlib.Nat.{zero-add}
use native.Mathlib.Numerals.{add-one}
use native.Mathlib.Omega.{arith}
use mathlib.Core.List.{List, ◌∷◌}
use lib.ListN.{length, take, drop}
use lib.Seq.{take_all}
use Rattle.array.specs.Buffers.{over, over_at}
use Rattle.array.specs.Bytes.{le}
use Rattle.array.specs.Kind.{Place, ragged}
use Rattle.array.specs.Offsets.{last, offsets_of}
use Rattle.array.specs.Lists.{joined}
use Rattle.array.specs.Places.{bytes_at, ends_at, offset_at, values_at}
use Rattle.array.proofs.Bytes.{length-le}
use Rattle.array.proofs.Places.{ends_are, length-ends_at}
use Rattle.codec.specs.Ragged.{put, index_of, put_ragged, length_at, index_at, data_at}
use Rattle.codec.specs.Values.{put_values}
use Rattle.codec.proofs.Ragged.{length_put, length_index}
use Rattle.codec.proofs.Values.{ragged_length_lem}
use Rattle.live_cells.specs.Live.{live_at}
use Rattle.live_cells.specs.declared.Level.{Level}
use Rattle.live_cells.proofs.Runs.{live-le}
use Rattle.encode_data.specs.Offsets.{Offsets}
use Rattle.encode_data.specs.Values.{live_ends, live_values}
use Rattle.encode_data.specs.declared.LiveValues.{LiveValues}
use Rattle.encode_data.proofs.Spans.{rises, ends-within, live_below, values_long}
use Rattle.encode_ragged.proofs.Placed.{ragged_laid}

-- ---- the values of the cells that a level counts

module _ (w : ℕ) (p : Place) (masks : List ℕ) (l : ℕ) {n : ℕ} {os : List ℕ} (o : Offsets n os) (s : List ℕ) (ended : last os ≡ length s) where
  abbrev cells : List ℕ
  cells = live_at n masks l

  data_long : length (joined (values_at (offset_at os) s (live_at n masks l))) ≡ bytes_at (offset_at os) (live_at n masks l)
  data_long = values_long masks l o s ended

  offsets_are : offsets_of (values_at (offset_at os) s cells) ≡ 0 ∷ ends_at (offset_at os) 0 cells
  offsets_are = ap (λ (r : List ℕ). 0 ∷ r) (ends_are (rises o) s (ends-within o ended) 0 cells (live_below n masks l))

  index_count : length (index_of w (0 ∷ ends_at (offset_at os) 0 cells)) ≡ w * (length cells + 1)
  index_count =
      length_index w (0 ∷ ends_at (offset_at os) 0 cells)
      ∙ ap (λ (m : ℕ). w * suc m) (length-ends_at (offset_at os) 0 cells) ∙ ap (λ (m : ℕ). w * m) (sym (add-one (length cells)))

  pub ragged_long : length (put_values (ragged w p) (values_at (offset_at os) s (live_at n masks l)))
      ≡ 8 + w * (length (live_at n masks l) + 1) + bytes_at (offset_at os) (live_at n masks l)
  unfolding put_values
  ragged_long =
      ragged_length_lem w p (record { values = joined (values_at (offset_at os) s cells); offsets = offsets_of (values_at (offset_at os) s cells) }) (length cells)
      (ap length offsets_are ∙ ap suc (length-ends_at (offset_at os) 0 cells))
      ∙ ap₂ (λ (a b : ℕ). 8 + a + b) (ap (λ (m : ℕ). w * m) (sym (add-one (length cells)))) data_long

-- ---- the same of values with their level

module _ (w : ℕ) (p : Place) (v : LiveValues) where
  abbrev level : Level
  level = v.places.live.level

  abbrev count : ℕ
  count = v.places.live.count

  -- no more cells count than have an offset behind them
  pub count_below : v.places.live.count < length v.places.offsets.now
  count_below = omega (arith, v.places.rising.counted, v.places.live.counted, live-le level.cells level.masks.now level.depth)

  pub index_long : length (index_of w (0 ∷ live_ends v.places)) ≡ w * (v.places.live.count + 1)
  index_long =
      index_count w p level.masks.now level.depth v.places.rising v.values.now v.whole ∙ ap (λ (m : ℕ). w * (m + 1)) (sym v.places.live.counted)

  pub stored_long : length (put_values (ragged w p) (live_values v)) ≡ 8 + w * (v.places.live.count + 1) + length (joined (live_values v))
  stored_long =
      ragged_long w p level.masks.now level.depth v.places.rising v.values.now v.whole
      ∙ ap₂ (λ (a b : ℕ). 8 + w * (a + 1) + b) (sym v.places.live.counted) (sym (data_long w p level.masks.now level.depth v.places.rising v.values.now v.whole))

  pub ragged_put : (at : ℕ) (out : List ℕ) {k bytes place start field : ℕ} {o1 o2 o3 : List ℕ} → k ≡ w → bytes ≡ length (joined (live_values v))
      → at + length (put_values (ragged w p) (live_values v)) ≤ length out
      → place ≡ data_at p (k * (v.places.live.count + 1)) → o1 ≡ over_at (at + place) (joined (live_values v)) out
      → start ≡ index_at p (8 + k * (v.places.live.count + 1) + bytes) (k * (v.places.live.count + 1)) → o2 ≡ over_at (at + start) (index_of w (0 ∷ live_ends v.places)) o1
      → field ≡ length_at p (8 + k * (v.places.live.count + 1) + bytes) → o3 ≡ over_at (at + field) (le 8 (k * (v.places.live.count + 1))) o2
      → o3 ≡ over_at at (put_values (ragged w p) (live_values v)) out
  unfolding put_values
  ragged_put at out {k} {bytes} {place} {start} {field} {o1} {o2} {o3} ek eb h ed e1 es e2 ef e3 =
      let wide : k * (count + 1) ≡ w * (count + 1) = ap (λ (x : ℕ). x * (count + 1)) ek in
      let starts = offsets_are w p level.masks.now level.depth v.places.rising v.values.now v.whole in
      ragged_laid p w at out (record { values = joined (live_values v); offsets = offsets_of (live_values v) })
      (ap (λ (x : List ℕ). length (index_of w x)) starts ∙ index_long ∙ sym wide)
      (sym eb)
      (omega (arith, stored_long, wide, eb))
      ed e1 es
      (e2 ∙ ap (λ (y : List ℕ). over_at (at + start) (index_of w y) o1) (sym starts))
      ef e3

-- ---- all values, with their offsets

module _ (w : ℕ) (p : Place) (os s : List ℕ) where
  pub plain_long : length (put_ragged w p (record { values = s; offsets = os })) ≡ 8 + w * length os + length s
  unfolding put_ragged
  plain_long =
      let index : List ℕ = index_of w os in
      omega (arith, length_put p (le 8 (length index)) (put p index s), length-le 8 (length index), length_put p index s, length_index w os)

  pub plain_put : (out : List ℕ) {k place start field : ℕ} {o1 o2 o3 : List ℕ} → k ≡ w → length (put_ragged w p (record { values = s; offsets = os })) ≤ length out
      → place ≡ data_at p (k * length os) → o1 ≡ over_at place (take (length s) (drop 0 s)) out
      → start ≡ index_at p (8 + k * length os + length s) (k * length os) → o2 ≡ over_at start (index_of w os) o1
      → field ≡ length_at p (8 + k * length os + length s) → o3 ≡ over_at field (le 8 (k * length os)) o2
      → o3 ≡ over (put_ragged w p (record { values = s; offsets = os })) out
  plain_put out {k} {place} {start} {field} {o1} {o2} {o3} ek h ed e1 es e2 ef e3 =
      let wide : k * length os ≡ w * length os = ap (λ (x : ℕ). x * length os) ek in
      ragged_laid p w 0 {bytes = length s} out (record { values = s; offsets = os }) (length_index w os ∙ sym wide) refl (omega (arith, plain_long, wide))
      ed (e1 ∙ ap₂ (λ (x : ℕ) (y : List ℕ). over_at x y out) (sym (zero-add place)) (take_all (length s) s (omega arith)))
      es (e2 ∙ ap (λ (x : ℕ). over_at x (index_of w os) o1) (sym (zero-add start)))
      ef (e3 ∙ ap (λ (x : ℕ). over_at x (le 8 (k * length os)) o2) (sym (zero-add field)))
