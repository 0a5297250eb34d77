-- The value bytes of the cells that a level counts, summed up cell by cell.
-- Assumes nothing.
use mathlib.Core.Path.{◌≡◌, refl, sym, ap, ap₂, ◌∙◌}
use Prim.Native.Nat.{ℕ, zero, suc, ◌+◌, ◌-◌, ◌*◌, ◌<◌, ◌≤◌}
use native.Mathlib.Nat.{add-zero, zero-add, mul-zero, mul-one}
use native.Mathlib.Numerals.{add-one}
use native.Mathlib.Omega.{arith}
use mathlib.Core.Bool.{Bool, true, false}
use mathlib.Core.List.{List, [], ◌∷◌}
use lib.Seq.{take_all}
use lib.ListN.{length, get_or}
use Rattle.array.specs.Lists.{joined, pick, from, passing}
use Rattle.array.specs.Offsets.{last}
use Rattle.array.specs.Places.{Rises, shown_at, bytes_at, offset_at, step_at}
use Rattle.array.proofs.Offsets.{last_at}
use Rattle.array.proofs.Places.{run_rises}
use Rattle.encode_data.specs.Offsets.{Offsets}
use Rattle.encode_data.specs.Values.{live_bytes, live_values}
use Rattle.encode_data.specs.declared.LiveOffsets.{LiveOffsets}
use Rattle.encode_data.specs.declared.LiveValues.{LiveValues}
use Rattle.encode_cells.proofs.Placing.{at_none}
use Rattle.encode_cells.proofs.Packing.{none_left}
use Rattle.encode_data.proofs.Spans.{rises, values_long, all_values, all_bytes}

-- the value bytes of those that pass, of the first i cells
abbrev pub so_far_lem : (ℕ → ℕ) → (ℕ → Bool) → ℕ → ℕ
so_far_lem off t zero = 0
so_far_lem off t (suc i) = so_far_lem off t i + pick (t i) (step_at off i) 0

module _ (off : ℕ → ℕ) (t : ℕ → Bool) where
  so_far : (i m : ℕ) → so_far_lem off t i + bytes_at off (passing t (from i m)) ≡ so_far_lem off t (i + m)
  so_far i zero = add-zero (so_far_lem off t i) ∙ ap (so_far_lem off t) (sym (add-zero i))
  so_far i (suc m) =
      let q : suc i + m ≡ i + suc m = omega arith in
      omega (arith, go (t i) (passing t (from (suc i) m)), so_far (suc i) m, ap (so_far_lem off t) q)
    where
      go : (b : Bool) (r : List ℕ) → bytes_at off (pick b (i ∷ r) r) ≡ pick b (step_at off i) 0 + bytes_at off r
      go true r = refl
      go false r = sym (zero-add (bytes_at off r))

  pub so_far_all : (n : ℕ) → so_far_lem off t n ≡ bytes_at off (passing t (from 0 n))
  so_far_all n = sym (sym (zero-add (bytes_at off (passing t (from 0 n)))) ∙ so_far 0 n ∙ ap (so_far_lem off t) (zero-add n))

  -- no more than lie before cell i
  so_far_le : {n : ℕ} → Rises off n → (i : ℕ) → i ≤ n → so_far_lem off t i ≤ off i
  so_far_le r zero h = omega arith
  so_far_le r (suc i) h = go (t i) (so_far_le r i (omega arith)) (r i h)
    where
      go : (b : Bool) → so_far_lem off t i ≤ off i → off i ≤ off (suc i) → so_far_lem off t i + pick b (step_at off i) 0 ≤ off (suc i)
      go true a b = omega arith
      go false a b = omega arith

pub bytes_le : {n : ℕ} {os : List ℕ} → Offsets n os → (t : ℕ → Bool) → bytes_at (offset_at os) (passing t (from 0 n)) ≤ last os
bytes_le {n} {os} o t = omega (arith, so_far_all (offset_at os) t n, so_far_le (offset_at os) t (rises o) n (omega arith), last_at os n o.counted)

-- ---- where every cell counts, and where there is no byte

module _ (p : LiveOffsets) where
  pub bytes_all : p.live.count ≡ p.live.level.cells → get_or p.offsets.now p.live.level.cells 0 ≡ live_bytes p
  bytes_all e = all_bytes p.rising p.live.level.masks.now p.live.level.depth p.live.counted e

  pub bytes_most : live_bytes p ≤ get_or p.offsets.now p.live.level.cells 0
  bytes_most =
      let v = p.live.level in
      omega (arith, bytes_le p.rising (shown_at v.cells v.masks.now v.depth), last_at p.offsets.now v.cells p.rising.counted)

module _ (v : LiveValues) where
  pub values_all : v.places.live.count ≡ v.places.live.level.cells → joined (live_values v) ≡ v.values.now
  values_all e =
      let l = v.places.live.level in
      all_values v.places.rising l.masks.now l.depth v.places.live.counted e v.values.now v.whole

  pub values_none : length v.values.now ≡ 0 → joined (live_values v) ≡ []
  values_none z =
      let l = v.places.live.level in
      none_left (joined (live_values v))
      (omega (arith, values_long l.masks.now l.depth v.places.rising v.values.now v.whole, bytes_le v.places.rising (shown_at l.cells l.masks.now l.depth), v.whole))

pub ruleset bytes_laws = (bytes_all, bytes_most)

pub ruleset values_laws = (values_all, values_none, at_none, take_all)

-- ---- the sum so far

pub record Summing (t : ℕ → Bool) (n : ℕ) (os : List ℕ) (total i : ℕ) : Type 0 where
  pub offsets : Offsets n os
  pub within : i ≤ n
  pub sum : total ≡ so_far_lem (offset_at os) t i

pub summing_begins : {t : ℕ → Bool} {n : ℕ} {os : List ℕ} → Offsets n os → Summing t n os 0 0
summing_begins o = record { offsets = o; within = omega arith; sum = refl }

-- the length by the mark
marked : (b : Bool) (x : ℕ) → x * pick b 1 0 ≡ pick b x 0
marked true x = mul-one x
marked false x = mul-zero x

module _ {t : ℕ → Bool} {n : ℕ} {os : List ℕ} {total i : ℕ} (l : Summing t n os total i) where
  pub summing_ends : n ≤ i → total ≡ bytes_at (offset_at os) (passing t (from 0 n))
  summing_ends h = let q : i ≡ n = omega (arith, l.within) in l.sum ∙ ap (so_far_lem (offset_at os) t) q ∙ so_far_all (offset_at os) t n

  module _ (h : i < n) where
    pub summing_inside : i + 1 < length os
    summing_inside = omega (arith, l.offsets.counted)

    pub summing_rises : get_or os i 0 ≤ get_or os (i + 1) 0
    summing_rises = run_rises (rises l.offsets) i 1 (omega arith)

    module _ {m : ℕ} (e : m ≡ pick (t i) 1 0) where
      pub summing_step : total + (get_or os (i + 1) 0 - get_or os i 0) * m ≡ so_far_lem (offset_at os) t (suc i)
      summing_step =
          ap₂ (λ (a b : ℕ). a + b) l.sum
          (ap₂ (λ (j k : ℕ). (get_or os j 0 - get_or os i 0) * k) (add-one i) e ∙ marked (t i) (step_at (offset_at os) i))

      pub summing_fits : total + (get_or os (i + 1) 0 - get_or os i 0) * m ≤ get_or os (i + 1) 0
      summing_fits =
          omega (arith, summing_step, so_far_le (offset_at os) t (rises l.offsets) (suc i) h, ap (λ (j : ℕ). get_or os j 0) (add-one i))

      pub summing_more : Summing t n os (total + (get_or os (i + 1) 0 - get_or os i 0) * m) (i + 1)
      summing_more = record { offsets = l.offsets; within = omega arith; sum = summing_step ∙ ap (so_far_lem (offset_at os) t) (sym (add-one i)) }
