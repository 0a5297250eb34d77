-- Offsets that begin at 0 and never fall, and the values between them, of the cells that a level counts: their bytes, their lengths and their ends.
-- Assumes nothing.
use mathlib.Core.Path.{◌≡◌, refl, sym, ap, ap₂, ◌∙◌}
use Prim.Native.Nat.{ℕ, zero, suc, ◌+◌, ◌-◌, ◌<◌, ◌≤◌}
use native.Mathlib.Nat.{zero-add, le_of_eq, le_trans}
use native.Mathlib.Omega.{arith}
use mathlib.Core.List.{List, ◌∷◌, map}
use lib.ListN.{length, take, drop, get_or}
use lib.Seq.{take_all}
use Rattle.array.specs.Lists.{from, joined, All}
use Rattle.array.specs.Offsets.{last}
use Rattle.array.specs.Places.{offset_at, Rises, step_at, values_at, bytes_at, ends_at, shown_at}
use Rattle.array.proofs.Geometry.{All-from}
use Rattle.array.proofs.Lists.{from_suc, by_number}
use Rattle.array.proofs.Offsets.{last_at}
use Rattle.array.proofs.Places.{run_rises, below, run_bytes, run_total, bytes_long, offsets_rise, first_zero}
use Rattle.live_cells.specs.Live.{live_at}
use Rattle.live_cells.proofs.Runs.{run_le, All-passing, all_counted}
use Rattle.encode_data.specs.Offsets.{Offsets}
use Rattle.encode_data.specs.declared.LiveOffsets.{LiveOffsets}
use Rattle.encode_data.specs.declared.LiveValues.{LiveValues}

module _ {n : ℕ} {os : List ℕ} (o : Offsets n os) where
  pub rises : Rises (offset_at os) n
  rises = offsets_rise os o.rising o.counted

  pub ends-within : {m : ℕ} → last os ≡ m → offset_at os n ≤ m
  ends-within e = le_of_eq (sym (last_at os n o.counted) ∙ e)

-- ---- the same of offsets and values with their level

pub places_long : (p : LiveOffsets) → length p.offsets.now ≡ suc p.live.level.cells
places_long p = p.rising.counted

pub places_rise : (p : LiveOffsets) (i j : ℕ) → i ≤ j → j ≤ p.live.level.cells → get_or p.offsets.now i 0 ≤ get_or p.offsets.now j 0
places_rise p i j h k =
    let e : i + (j - i) ≡ j = omega arith in
    omega (arith, run_rises (rises p.rising) i (j - i) (omega arith), ap (λ (m : ℕ). get_or p.offsets.now m 0) e)

pub values_within : (v : LiveValues) (i : ℕ) → i ≤ v.places.live.level.cells → get_or v.places.offsets.now i 0 ≤ length v.values.now
values_within v i h = le_trans (below (rises v.places.rising) i h) (ends-within v.places.rising v.whole)

pub ruleset span_laws = (run_le, places_long, places_rise, values_within)

-- ---- the cells that a level counts

pub live_below : (n : ℕ) (masks : List ℕ) (l : ℕ) → All (λ j. j < n) (live_at n masks l)
live_below n masks l = All-passing (shown_at n masks l) (λ j. j < n) (from 0 n) (All-from (λ j. j < n) 0 n (λ j h k. omega arith))

pub values_long : {n : ℕ} {os : List ℕ} (masks : List ℕ) (l : ℕ) → Offsets n os → (s : List ℕ) → last os ≡ length s
    → length (joined (values_at (offset_at os) s (live_at n masks l))) ≡ bytes_at (offset_at os) (live_at n masks l)
values_long {n} masks l o s e = bytes_long (rises o) s (ends-within o e) (live_at n masks l) (live_below n masks l)

-- ---- where every cell counts

module _ {n : ℕ} {os : List ℕ} (o : Offsets n os) (masks : List ℕ) (l : ℕ) {count : ℕ} (ec : count ≡ length (live_at n masks l)) (e : count ≡ n) where
  all_live : live_at n masks l ≡ from 0 n
  all_live = all_counted (shown_at n masks l) (sym ec ∙ e)

  -- the bytes as they lie
  pub all_values : (s : List ℕ) → last os ≡ length s → joined (values_at (offset_at os) s (live_at n masks l)) ≡ s
  all_values s el =
      let q : offset_at os (0 + n) ≡ length s = ap (offset_at os) (zero-add n) ∙ sym (last_at os n o.counted) ∙ el in
      ap (λ (is : List ℕ). joined (values_at (offset_at os) s is)) all_live
      ∙ run_bytes (rises o) s 0 n (omega arith)
      ∙ ap₂ (λ (a b : ℕ). take (b - a) (drop a s)) (first_zero os o.rising) q
      ∙ take_all (length s - 0) s (omega arith)

  -- the offsets as they lie
  pub all_ends : os ≡ 0 ∷ ends_at (offset_at os) 0 (live_at n masks l)
  all_ends =
      by_number 0 (offset_at os) os o.counted (λ i h. refl)
      ∙ ap (λ (r : List ℕ). offset_at os 0 ∷ r) (from_suc (offset_at os) 0 n ∙ run 0 n (omega arith))
      ∙ ap₂ (λ (x : ℕ) (is : List ℕ). x ∷ ends_at (offset_at os) x is) (first_zero os o.rising) (sym all_live)
    where
      run : (i r : ℕ) → i + r ≤ n → map (λ j. offset_at os (suc j)) (from i r) ≡ ends_at (offset_at os) (offset_at os i) (from i r)
      run i zero h = refl
      run i (suc r) h =
          let q : offset_at os (suc i) ≡ offset_at os i + step_at (offset_at os) i = omega (arith, rises o i (omega arith)) in
          ap₂ (λ (x : ℕ) (r : List ℕ). x ∷ r) q (run (suc i) r (omega arith) ∙ ap (λ (x : ℕ). ends_at (offset_at os) x (from (suc i) r)) q)

  -- as many bytes as the last offset says
  pub all_bytes : get_or os n 0 ≡ bytes_at (offset_at os) (live_at n masks l)
  all_bytes =
      omega (arith, ap (bytes_at (offset_at os)) all_live, run_total (rises o) 0 n (omega arith), first_zero os o.rising, ap (offset_at os) (zero-add n))
