-- The loop that writes offsets as they are stored: what is left to write, turn by turn.
-- Assumes nothing.
use mathlib.Core.Path.{◌≡◌, ap, ◌∙◌, subst}
use mathlib.Core.List.{List, ◌∷◌}
use Prim.Native.Nat.{ℕ, suc, ◌+◌, ◌-◌, ◌*◌, ◌≤◌, ◌<◌}
use native.Mathlib.Omega.{arith}
use native.Mathlib.Nat.{suc-mul, zero-add}
use native.Mathlib.Numerals.{add-one}
use lib.ListN.{length, take, drop, set, length-map}
use lib.Seq.{drop-drop}
use Rattle.array.specs.Lists.{pieces}
use Rattle.array.specs.Bytes.{unle}
use Rattle.array.specs.Buffers.{over}
use Rattle.array.proofs.Lists.{length-pieces}
use Rattle.array.proofs.Laying.{Laying, laying_begins, laying_ends, laying_store, laying_is}
use Rattle.stored_index.specs.Index.{offsets_in}

pub length_offsets : (w n : ℕ) (q : List ℕ) → length (offsets_in w n q) ≡ n
length_offsets w n q = length-map (pieces w n q) unle ∙ length-pieces w n q

-- the offsets from the i-th on, and what is written before it
module _ (w n : ℕ) (s d : List ℕ) (at : ℕ) where
  abbrev pub offsets_from : ℕ → List ℕ
  offsets_from i = offsets_in w (n + 1 - i) (drop (at + i * w) s)

  abbrev pub Copied : List ℕ → ℕ → Type 0
  Copied out i = Laying (offsets_in w (suc n) (drop at s)) d 0 out i (offsets_from i)

  offsets_next : (i : ℕ) → i < n + 1 → offsets_from i ≡ unle (take w (drop (at + i * w) s)) ∷ offsets_from (i + 1)
  offsets_next i h =
      let first = unle (take w (drop (at + i * w) s)) in
      let one : n + 1 - i ≡ suc (n + 1 - (i + 1)) = omega arith in
      let next : at + i * w + w ≡ at + (i + 1) * w = omega (arith, ap (λ (k : ℕ). k * w) (add-one i), suc-mul i w) in
      ap (λ (k : ℕ). offsets_in w k (drop (at + i * w) s)) one
      ∙ ap (λ (q : List ℕ). first ∷ offsets_in w (n + 1 - (i + 1)) q) (drop-drop w (at + i * w) s ∙ ap (λ (j : ℕ). drop j s) next)

  pub copied_begins : n + 1 ≤ length d → Copied d 0
  copied_begins r =
      let want = offsets_in w (suc n) (drop at s) in
      let count : suc n ≡ n + 1 - 0 = omega arith in
      let from : at ≡ at + 0 * w = omega arith in
      laying_is (laying_begins want d 0 (omega (arith, r, length_offsets w (suc n) (drop at s))))
      (ap (λ (k : ℕ). offsets_in w k (drop at s)) count ∙ ap (λ (j : ℕ). offsets_in w (n + 1 - 0) (drop j s)) from)

  module _ {out : List ℕ} {i : ℕ} (c : Copied out i) where
    pub copied_ends : n + 1 ≤ i → out ≡ over (offsets_in w (suc n) (drop at s)) d
    copied_ends h =
        let none : n + 1 - i ≡ 0 = omega arith in
        laying_ends (offsets_in w (suc n) (drop at s)) d 0 out i (laying_is c (ap (λ (k : ℕ). offsets_in w k (drop (at + i * w) s)) none))

    pub copied_more : i < n + 1 → (v : ℕ) → unle (take w (drop (at + i * w) s)) ≡ v → Copied (set out i v) (i + 1)
    copied_more h v e =
        let want = offsets_in w (suc n) (drop at s) in
        let next = offsets_next i h ∙ ap (λ (x : ℕ). x ∷ offsets_from (i + 1)) e in
        subst (λ (k : ℕ). Laying want d 0 (set out k v) (i + 1) (offsets_from (i + 1))) (zero-add i) (laying_store want d 0 out i v (offsets_from (i + 1)) (laying_is c next))
