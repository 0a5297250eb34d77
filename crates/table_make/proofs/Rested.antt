-- The table of an array's rest form is the one by cell numbers: sizes, places and bytes of the cells that are shown.
-- Assumes nothing.
use mathlib.Core.Path.{◌≡◌, refl, sym, ap, ap₂, ◌∙◌}
use Prim.Native.Nat.{ℕ, zero, suc, ◌+◌, ◌≤◌, ◌<◌}
use native.Mathlib.Nat.{add-zero, zero-add}
use native.Mathlib.Omega.{arith}
use mathlib.Core.Bool.{Bool, true, false}
use mathlib.Core.List.{List, [], ◌∷◌, ◌++◌, map}
use lib.ListN.{length, get_or}
use Rattle.array.specs.Lists.{from, pick, joined, passing}
use Rattle.array.specs.Kind.{Kind, Place, Form, fixed, ragged, null_of}
use Rattle.array.specs.Cells.{Value}
use Rattle.array.specs.Content.{Content, ValuesOk, ContentOk, rest_form}
use Rattle.array.specs.Offsets.{ends, offsets_of}
use Rattle.array.specs.Places.{offset_at, step_at, value_at, value_in, shown_at, laid_by}
use Rattle.array.proofs.Lists.{map-from}
use Rattle.array.proofs.Places.{value_long}
use Rattle.array.proofs.Numbered.{rest_laid}
use Rattle.codec.specs.Interleaved.{IsRagged}
use Rattle.encode_data.specs.Offsets.{Offsets}
use Rattle.encode_data.proofs.Spans.{rises, ends-within}
use Rattle.encode_data.proofs.Summing.{so_far_lem, so_far_all}
use Rattle.table.specs.Table.{Table}
use Rattle.table.specs.Calls.{starts_at, table_of}
use Rattle.rest_masks.specs.Rested.{rest_mask}
use Rattle.table_make.specs.Rested.{size_at, start_at, rest_table}

-- tables are equal by their parts
pub table_path : {a a' b b' c c' d d' : List ℕ} → a ≡ a' → b ≡ b' → c ≡ c' → d ≡ d'
    → ◌≡◌ {A = Table} (record { masks = a; starts = b; lengths = c; store = d }) (record { masks = a'; starts = b'; lengths = c'; store = d' })
table_path p q r s = λ i. record { masks = p i; starts = q i; lengths = r i; store = s i }

-- ---- the bytes: those that are hidden are none

shown_bytes : (t : ℕ → Bool) (v : ℕ → Value) (js : List ℕ) → joined (map (λ j. pick (t j) (v j) []) js) ≡ joined (map v (passing t js))
shown_bytes t v [] = refl
shown_bytes t v (j ∷ js) = go (t j) (shown_bytes t v js)
  where
    go : (b : Bool) → joined (map (λ i. pick (t i) (v i) []) js) ≡ joined (map v (passing t js))
        → pick b (v j) [] ++ joined (map (λ i. pick (t i) (v i) []) js) ≡ joined (map v (pick b (j ∷ passing t js) (passing t js)))
    go true e = ap (λ (r : List ℕ). v j ++ r) e
    go false e = e

-- ---- the offsets of n values of these sizes

module _ (off : ℕ → ℕ) (t : ℕ → Bool) (v : ℕ → Value) (n : ℕ) (long : (j : ℕ) → j < n → length (v j) ≡ pick (t j) (step_at off j) 0) where
  place_from : (i m j : ℕ) → i + m ≤ n → j ≤ m → get_or (so_far_lem off t i ∷ ends (so_far_lem off t i) (map v (from i m))) j 0 ≡ so_far_lem off t (i + j)
  place_from i m zero h l = ap (so_far_lem off t) (sym (add-zero i))
  place_from i zero (suc j) h l = absurd (omega arith)
  place_from i (suc m) (suc j) h l =
      let e : so_far_lem off t i + length (v i) ≡ so_far_lem off t (suc i) = ap (λ (k : ℕ). so_far_lem off t i + k) (long i (omega arith)) in
      let q : suc i + j ≡ i + suc j = omega arith in
      ap (λ (a : ℕ). get_or (a ∷ ends a (map v (from (suc i) m))) j 0) e ∙ place_from (suc i) m j (omega arith) (omega arith) ∙ ap (so_far_lem off t) q

  place_is : (j : ℕ) → j ≤ n → offset_at (offsets_of (map v (from 0 n))) j ≡ so_far_lem off t j
  place_is j h = place_from 0 n j (omega arith) h ∙ ap (so_far_lem off t) (zero-add j)

  step_is : (j : ℕ) → j < n → step_at (offset_at (offsets_of (map v (from 0 n)))) j ≡ pick (t j) (step_at off j) 0
  step_is j h =
      let behind : offset_at (offsets_of (map v (from 0 n))) (suc j) ≡ so_far_lem off t j + pick (t j) (step_at off j) 0 = place_is (suc j) h in
      omega (arith, behind, place_is j (omega arith))

-- ---- the table

-- the value of cell j, where it is shown
abbrev value_shown : ℕ → ℕ → Content → ℕ → Value
value_shown d n c j = pick (shown_at n c.masks d j) (value_at (offset_at c.offsets) c.values j) []

module _ (d n : ℕ) (c : Content) (o : Offsets n c.offsets) (e : offset_at c.offsets n ≤ length c.values) where
  long : (j : ℕ) → j < n → length (value_shown d n c j) ≡ size_at n c.masks d c.offsets j
  long j h = go (shown_at n c.masks d j)
    where
      go : (b : Bool) → length (pick b (value_at (offset_at c.offsets) c.values j) []) ≡ pick b (step_at (offset_at c.offsets) j) 0
      go true = value_long (rises o) c.values e j h
      go false = refl

  rested_by : (w : ℕ) (p : Place) → rest_table d n c ≡ table_of n (laid_by (ragged w p) d (rest_mask n c.masks) (value_shown d n c) (from 0 n))
  rested_by w p =
      let off : ℕ → ℕ = offset_at c.offsets in
      let shows : ℕ → Bool = shown_at n c.masks d in
      let place = place_is off shows (value_shown d n c) n long in
      let step = step_is off shows (value_shown d n c) n long in
      table_path refl
      (map-from (start_at n c.masks d c.offsets) _ 0 n (λ j h. sym (ap₂ starts_at (place j (omega arith) ∙ so_far_all off shows j) (step j (omega arith)))))
      (map-from (size_at n c.masks d c.offsets) _ 0 n (λ j h. sym (step j (omega arith))))
      (sym (shown_bytes shows (value_at off c.values) (from 0 n)))

pub rested_is : {k : Kind} {n : ℕ} {c : Content} → ContentOk k n c → IsRagged k.form → rest_table k.depth n c ≡ table_of n (rest_form k n c)
rested_is {k} {n} {c} ok r = go k.form r ok.values_fit ∙ ap (table_of n) (sym (rest_laid ok))
  where
    go : (f : Form) → IsRagged f → ValuesOk f n c
        → rest_table k.depth n c
        ≡ table_of n (laid_by f k.depth (rest_mask n c.masks) (λ j. pick (shown_at n c.masks k.depth j) (value_in f c j) (null_of f)) (from 0 n))
    go (fixed s o) x v = absurd x
    go (ragged w p) x v =
        let o : Offsets n c.offsets = record { counted = v.0; rising = v.1 } in
        rested_by k.depth n c o (ends-within o v.2) w p
