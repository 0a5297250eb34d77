-- Straight-line code over a list: elements read one by one, and stores one after another, for any number of them.
-- Assumes nothing.
use mathlib.Core.Path.{◌≡◌, refl, sym, ap, ap₂, ◌∙◌}
use mathlib.Core.List.{List, [], ◌∷◌, ◌++◌}
use Prim.Native.Nat.{ℕ, zero, suc, ◌+◌, ◌≤◌}
use native.Mathlib.Nat.{add-zero, add-suc}
use native.Mathlib.Omega.{arith}
use native.Mathlib.Numerals.{add-one}
use lib.ListN.{length, take, drop, get_or, set, length-append}
use lib.Seq.{drop-cons, length-take-le, sets, sets-eq}
use Rattle.array.specs.Buffers.{over_at}

-- ---- w elements read at `at`, `at + 1`, ..

abbrev pub reads_from : List ℕ → ℕ → ℕ → ℕ → List ℕ
reads_from s at i zero = []
reads_from s at i (suc w) = get_or s (at + i) 0 ∷ reads_from s at (suc i) w

abbrev pub reads : List ℕ → ℕ → ℕ → List ℕ
reads s at zero = []
reads s at (suc w) = get_or s at 0 ∷ reads_from s at 1 w

module _ (s : List ℕ) (at : ℕ) where
  reads_from_lem : (w i : ℕ) → at + i + w ≤ length s → reads_from s at i w ≡ take w (drop (at + i) s)
  reads_from_lem zero i h = refl
  reads_from_lem (suc w) i h =
      let k : at + suc i + w ≤ length s = omega arith in
      ap (λ (l : List ℕ). get_or s (at + i) 0 ∷ l) (reads_from_lem w (suc i) k ∙ ap (λ (j : ℕ). take w (drop j s)) (add-suc at i))
      ∙ ap (take (suc w)) (sym (drop-cons s (at + i) 0 (omega arith)))

  pub reads_take : (w : ℕ) → at + w ≤ length s → reads s at w ≡ take w (drop at s)
  reads_take zero h = refl
  reads_take (suc w) h =
      ap₂ (λ (j : ℕ) (l : List ℕ). get_or s j 0 ∷ l) (sym (add-zero at)) refl
      ∙ reads_from_lem (suc w) 0 (omega arith) ∙ ap (λ (j : ℕ). take (suc w) (drop j s)) (add-zero at)

-- ---- elements stored at `at`, `at + 1`, ..

abbrev pub stores_from : List ℕ → ℕ → ℕ → List ℕ → List ℕ
stores_from d at i [] = d
stores_from d at i (x ∷ xs) = stores_from (set d (at + i) x) at (suc i) xs

abbrev pub stores : List ℕ → ℕ → List ℕ → List ℕ
stores d at [] = d
stores d at (x ∷ xs) = stores_from (set d at x) at 1 xs

stores_from_lem : (at : ℕ) (xs d : List ℕ) (i : ℕ) → stores_from d at i xs ≡ sets d (at + i) xs
stores_from_lem at [] d i = refl
stores_from_lem at (x ∷ xs) d i = stores_from_lem at xs (set d (at + i) x) (suc i) ∙ ap (λ (j : ℕ). sets (set d (at + i) x) j xs) (add-suc at i)

stores_sets : (at : ℕ) (xs d : List ℕ) → stores d at xs ≡ sets d at xs
stores_sets at [] d = refl
stores_sets at (x ∷ xs) d = stores_from_lem at xs (set d at x) 1 ∙ ap (λ (j : ℕ). sets (set d at x) j xs) (add-one at)

pub stores_over : (at : ℕ) (xs d : List ℕ) → at + length xs ≤ length d → stores d at xs ≡ over_at at xs d
stores_over at xs d h =
    let e : at + length xs ≡ length (take at d ++ xs) = omega (arith, length-append (take at d) xs, length-take-le at d (omega arith)) in
    stores_sets at xs d ∙ sets-eq xs d at h ∙ ap (λ (j : ℕ). take at d ++ xs ++ drop j d) e
