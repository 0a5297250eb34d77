-- Values of either form: read as they were written, and how long they are when written.
-- Assumes nothing.
use mathlib.Core.Path.{◌≡◌, refl, sym, ap, ap₂, ◌∙◌}
use mathlib.Core.Logic.{◌⊎◌, inl, inr}
use Prim.Native.Nat.{ℕ, suc, ◌+◌, ◌*◌, ◌^◌, ◌<◌, ◌≤◌}
use native.Mathlib.Nat.{zero-add}
use native.Mathlib.Omega.{arith}
use mathlib.Core.List.{List, [], ◌∷◌, map, reverse-reverse}
use lib.ListN.{length, length-append, length-map}
use borrow.Author.Tests.{eq-eqb}
use Rattle.array.specs.Answer.{Answer, gives, and_then}
use Rattle.array.specs.Limits.{most_bytes}
use Rattle.array.specs.Lists.{joined, pieces}
use Rattle.array.specs.Bytes.{le}
use Rattle.array.specs.Kind.{Place, Form, fixed, ragged, FormOk, Order, little, big, ordered}
use Rattle.array.specs.Offsets.{slices}
use Rattle.array.specs.Cells.{Value}
use Rattle.array.specs.Content.{RaggedContent, end_to_end}
use Rattle.array.proofs.Bytes.{length-le}
use Rattle.array.proofs.Lists.{Sized, All-map, All-image, length-joined, pieces-joined}
use Rattle.array.proofs.Offsets.{length-ends, rising_ends, last-ends, slices_offsets}
use Rattle.array.proofs.Sizes.{SizedAs, length-ordered}
use Rattle.codec.specs.Ragged.{put, index_of, put_ragged, get_ragged}
use Rattle.codec.specs.Carried.{Carried}
use Rattle.codec.specs.Values.{put_values, get_values}
use Rattle.codec.specs.Length.{ragged_length, values_length}
use Rattle.codec.proofs.Ragged.{length_put, length_index, back_ragged}

pub ordered_twice : (o : Order) (vs : List Value) → map (ordered o) (map (ordered o) vs) ≡ vs
ordered_twice o [] = refl
ordered_twice o (v ∷ vs) = ap₂ (λ (x : Value) (r : List Value). x ∷ r) (one o) (ordered_twice o vs)
  where
    one : (o : Order) → ordered o (ordered o v) ≡ v
    one little = refl
    one big = reverse-reverse v

pub length-joined-ordered : (o : Order) (vs : List Value) → length (joined (map (ordered o) vs)) ≡ length (joined vs)
length-joined-ordered o [] = refl
length-joined-ordered o (v ∷ vs) =
    length-append (ordered o v) (joined (map (ordered o) vs))
    ∙ ap₂ (λ (a b : ℕ). a + b) (length-ordered o v) (length-joined-ordered o vs) ∙ sym (length-append v (joined vs))

pub sized-ordered : (k : ℕ) (o : Order) (vs : List Value) → Sized k vs → Sized k (map (ordered o) vs)
sized-ordered k o vs p = All-image (λ v. length v ≡ k) (ordered o) vs (All-map (λ v. length v ≡ k) (λ v. length (ordered o v) ≡ k) (λ v e. length-ordered o v ∙ e) vs p)

-- the ragged content of values that lie end to end from offset 0
pub back_offsets : (w : ℕ) (p : Place) (vs : List Value) → Carried (ragged w p) vs → length (joined vs) ≤ most_bytes
    → length (put_ragged w p (end_to_end vs)) < 256 ^ 8 → get_ragged w p (put_ragged w p (end_to_end vs)) (length vs) ≡ gives (end_to_end vs)
back_offsets w p vs c g h =
    back_ragged w p (end_to_end vs) (length vs) c (ap suc (length-ends 0 vs)) (refl, rising_ends 0 vs)
    (last-ends 0 vs ∙ zero-add (length (joined vs))) g h

pub back_values : (f : Form) (vs : List Value) → SizedAs f vs × (length (joined vs) ≤ most_bytes) × Carried f vs
    → length (put_values f vs) < 256 ^ 8 → get_values f (put_values f vs) (length vs) ≡ gives vs
unfolding put_values get_values
back_values (fixed k o) vs g h =
    let us : List Value = map (ordered o) vs in
    let su : Sized k us = sized-ordered k o vs g.0 in
    let ln : length us ≡ length vs = length-map vs (ordered o) in
    let whole : pieces k (length vs) (joined us) ≡ us = ap (λ (n : ℕ). pieces k n (joined us)) (sym ln) ∙ pieces-joined k us su in
    rw (eq-eqb (length (joined us)) (length vs * k) (length-joined k us su ∙ ap (λ (n : ℕ). n * k) ln), whole, ordered_twice o vs)
back_values (ragged w p) vs g h =
    ap (λ (a : Answer RaggedContent). and_then a (λ x. gives (slices x.offsets x.values))) (back_offsets w p vs g.2 g.1 h)
    ∙ ap gives (slices_offsets vs)

-- ---- how long values are when they are written

pub ragged_length_lem : (w : ℕ) (p : Place) (c : RaggedContent) (n : ℕ) → length c.offsets ≡ suc n → length (put_ragged w p c) ≡ ragged_length w n (length c.values)
unfolding put_ragged
ragged_length_lem w p c n e =
    let index : List ℕ = index_of w c.offsets in
    omega (
      arith,
      length_put p (le 8 (length index)) (put p index c.values),
      length-le 8 (length index),
      length_put p index c.values,
      length_index w c.offsets ∙ ap (λ (m : ℕ). w * m) e,
    )

pub values_length_lem : (f : Form) (vs : List Value) → SizedAs f vs → length (put_values f vs) ≡ values_length f vs
unfolding put_values
values_length_lem (fixed k o) vs s = length-joined-ordered o vs ∙ length-joined k vs s
values_length_lem (ragged w p) vs s = ragged_length_lem w p (end_to_end vs) (length vs) (ap suc (length-ends 0 vs))

pub width_le : (w m : ℕ) → (w ≡ 4) ⊎ (w ≡ 8) → w * m ≤ 8 * m
width_le w m (inl e) = rw e (omega arith)
width_le w m (inr e) = rw e (omega arith)

pub length-put_values : (f : Form) → FormOk f → (vs : List Value) → length (put_values f vs) ≤ 8 + 8 * suc (length vs) + length (joined vs)
unfolding put_values
length-put_values (fixed k o) ok vs = omega (arith, length-joined-ordered o vs)
length-put_values (ragged w p) ok vs = omega (arith, ragged_length_lem w p (end_to_end vs) (length vs) (ap suc (length-ends 0 vs)), width_le w (suc (length vs)) ok)
