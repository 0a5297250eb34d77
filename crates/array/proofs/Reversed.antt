-- The call reverse_endianness: as many bytes as the whole cells have, what a refusal leaves, what success leaves.
-- Assumes nothing.
use mathlib.Core.Path.{◌≡◌, refl, sym, ap, ◌∙◌}
use mathlib.Core.Bool.{true, false}
use mathlib.Core.List.{List, reverse}
use Prim.Native.Nat.{ℕ, zero, suc, ◌+◌, ◌*◌, ◌/◌, ◌≤◌}
use native.Mathlib.Nat.{zero-mul, suc-mul, div-mul-le_self}
use native.Mathlib.Omega.{arith}
use lib.ListN.{length, take, drop, length-append, length-drop, length-reverse}
use lib.Seq.{length-take-le}
use Rattle.array.specs.Answer.{gives, refuses}
use Rattle.array.specs.Buffers.{over}
use Rattle.array.specs.Kind.{fixed, little, form_test}
use Rattle.array.specs.Calls.{reversed_cells, reverse_answer, endianness_reversed}

pub length_reversed : (k i : ℕ) (s : List ℕ) → i * k ≤ length s → length (reversed_cells k i s) ≡ i * k
length_reversed k zero s h = sym (zero-mul k)
length_reversed k (suc i) s h =
    let m : suc i * k ≡ i * k + k = suc-mul i k in
    omega (
      arith,
      length-append (reverse (take k s)) (reversed_cells k i (drop k s)),
      length-reverse (take k s),
      length-take-le k s (omega arith),
      length_reversed k i (drop k s) (omega (arith, length-drop k s)),
    )

pub reverse_refused : (k : ℕ) (d : List ℕ) → form_test (fixed k little) ≡ false → record { answer = refuses 1; buffers = d } ≡ endianness_reversed k d
unfolding endianness_reversed reverse_answer
reverse_refused k d t = rw t

pub reverse_done : (k : ℕ) (d d' : List ℕ) (n : ℕ) → form_test (fixed k little) ≡ true → n ≡ length d / k → d' ≡ over (reversed_cells k n d) d
    → record { answer = gives (n * k); buffers = d' } ≡ endianness_reversed k d
unfolding endianness_reversed reverse_answer
reverse_done k d d' n t e f =
    let l : length (reversed_cells k n d) ≡ n * k = length_reversed k n d (omega (arith, ap (λ (j : ℕ). j * k) e, div-mul-le_self (length d) k)) in
    rw (t, f, l, e)

-- by a size that is j
pub reverse-whole : (k j : ℕ) (d d' : List ℕ) (r : ℕ) → form_test (fixed k little) ≡ true → k ≡ j → r ≡ length d / j * j → d' ≡ over (reversed_cells j (length d / j) d) d
    → record { answer = gives r; buffers = d' } ≡ endianness_reversed k d
reverse-whole k j d d' r t q e f =
    ap (λ (n : ℕ). record { answer = gives n; buffers = d' }) (e ∙ ap (λ (i : ℕ). length d / i * i) (sym q))
    ∙ reverse_done k d d' (length d / k) t refl (f ∙ ap (λ (i : ℕ). over (reversed_cells i (length d / i) d) d) (sym q))
