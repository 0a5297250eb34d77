-- Ragged values of which some are shown, laid end to end: their bytes, and where each begins.
-- Assumes nothing.
use mathlib.Core.Path.{◌≡◌, refl, sym, ap, ◌∙◌}
use Prim.Native.Nat.{ℕ, zero, suc, ◌+◌, ◌≤◌, ◌<◌}
use native.Mathlib.Nat.{add-zero, zero-add}
use native.Mathlib.Omega.{arith}
use mathlib.Core.Bool.{Bool, true, false}
use mathlib.Core.List.{List, [], ◌∷◌, ◌++◌, map}
use lib.ListN.{length, get_or, length-map}
use Rattle.array.specs.Lists.{from, pick, joined, passing}
use Rattle.array.specs.Cells.{Value}
use Rattle.array.specs.Offsets.{ends, offsets_of}
use Rattle.array.specs.Places.{offset_at, step_at, value_at, bytes_at}
use Rattle.array.proofs.Lists.{length_from_lem, by_number}
use Rattle.array.proofs.Offsets.{length-ends}
use Rattle.array.proofs.Places.{value_long}
use Rattle.encode_data.specs.Offsets.{Offsets}
use Rattle.encode_data.proofs.Spans.{rises}
use Rattle.encode_data.proofs.Summing.{so_far_lem, so_far_all}

-- ---- the bytes: those that are hidden are none

pub shown_bytes : (t : ℕ → Bool) (v : ℕ → Value) (js : List ℕ) → joined (map (λ j. pick (t j) (v j) []) js) ≡ joined (map v (passing t js))
shown_bytes t v [] = refl
shown_bytes t v (j ∷ js) = go (t j) (shown_bytes t v js)
  where
    go : (b : Bool) → joined (map (λ i. pick (t i) (v i) []) js) ≡ joined (map v (passing t js))
        → pick b (v j) [] ++ joined (map (λ i. pick (t i) (v i) []) js) ≡ joined (map v (pick b (j ∷ passing t js) (passing t js)))
    go true e = ap (λ (r : List ℕ). v j ++ r) e
    go false e = e

-- ---- the offsets of n values of these sizes

module _ (off : ℕ → ℕ) (t : ℕ → Bool) (v : ℕ → Value) (n : ℕ) (long : (j : ℕ) → j < n → length (v j) ≡ pick (t j) (step_at off j) 0) where
  place_from : (i m j : ℕ) → i + m ≤ n → j ≤ m → get_or (so_far_lem off t i ∷ ends (so_far_lem off t i) (map v (from i m))) j 0 ≡ so_far_lem off t (i + j)
  place_from i m zero h l = ap (so_far_lem off t) (sym (add-zero i))
  place_from i zero (suc j) h l = absurd (omega arith)
  place_from i (suc m) (suc j) h l =
      let e : so_far_lem off t i + length (v i) ≡ so_far_lem off t (suc i) = ap (λ (k : ℕ). so_far_lem off t i + k) (long i (omega arith)) in
      let q : suc i + j ≡ i + suc j = omega arith in
      ap (λ (a : ℕ). get_or (a ∷ ends a (map v (from (suc i) m))) j 0) e ∙ place_from (suc i) m j (omega arith) (omega arith) ∙ ap (so_far_lem off t) q

  pub place_is : (j : ℕ) → j ≤ n → offset_at (offsets_of (map v (from 0 n))) j ≡ so_far_lem off t j
  place_is j h = place_from 0 n j (omega arith) h ∙ ap (so_far_lem off t) (zero-add j)

  pub step_is : (j : ℕ) → j < n → step_at (offset_at (offsets_of (map v (from 0 n)))) j ≡ pick (t j) (step_at off j) 0
  step_is j h =
      let behind : offset_at (offsets_of (map v (from 0 n))) (suc j) ≡ so_far_lem off t j + pick (t j) (step_at off j) 0 = place_is (suc j) h in
      omega (arith, behind, place_is j (omega arith))

-- ---- the values of an array that t shows

module _ {n : ℕ} {os : List ℕ} (o : Offsets n os) (s : List ℕ) (e : offset_at os n ≤ length s) (t : ℕ → Bool) where
  abbrev off : ℕ → ℕ
  off = offset_at os

  pub shown_long : (j : ℕ) → j < n → length (pick (t j) (value_at off s j) []) ≡ pick (t j) (step_at off j) 0
  shown_long j h = go (t j)
    where
      go : (b : Bool) → length (pick b (value_at off s j) []) ≡ pick b (step_at off j) 0
      go true = value_long (rises o) s e j h
      go false = refl

  pub shown_offsets : offsets_of (map (λ j. pick (t j) (value_at off s j) []) (from 0 n)) ≡ map (λ j. bytes_at off (passing t (from 0 j))) (from 0 (suc n))
  shown_offsets =
      let v : ℕ → Value = λ j. pick (t j) (value_at off s j) [] in
      let long : length (offsets_of (map v (from 0 n))) ≡ suc n = ap suc (length-ends 0 (map v (from 0 n)) ∙ length-map (from 0 n) v ∙ length_from_lem 0 n) in
      by_number 0 (λ j. bytes_at off (passing t (from 0 j))) (offsets_of (map v (from 0 n))) long
      (λ j h. place_is off t v n shown_long j (omega arith) ∙ so_far_all off t j)
