-- Bytes from a place on: the next of them and those after it, how many bits they say.
-- Assumes nothing.
use mathlib.Core.Path.{◌≡◌, sym, ap, ap₂, ◌∙◌}
use Prim.Native.Nat.{ℕ, ◌+◌, ◌*◌, ◌<◌, ◌≤◌}
use native.Mathlib.Omega.{arith}
use native.Mathlib.Numerals.{add-one}
use mathlib.Core.List.{List, [], ◌∷◌, map}
use lib.ListN.{length, get_or, take, drop, length-map, length-drop, drop_of_length-le}
use lib.Seq.{length-take-le, drop-cons, get_or-take, get_or-drop}
use Rattle.array.specs.Cells.{bit_of}
use Rattle.codec.specs.Mask.{bits_of}
use Rattle.codec.proofs.Masks.{length_bits}

-- the element i of the k at `at`, and those after it
module _ (s : List ℕ) (at k : ℕ) (h : at + k ≤ length s) where
  part_length : length (take k (drop at s)) ≡ k
  part_length = length-take-le k (drop at s) (omega (arith, length-drop at s))

  pub part_next : (i : ℕ) → i < k → drop i (take k (drop at s)) ≡ get_or s (at + i) 0 ∷ drop (i + 1) (take k (drop at s))
  part_next i l =
      drop-cons (take k (drop at s)) i 0 (omega (arith, part_length))
      ∙ ap₂ (λ (b j : ℕ). b ∷ drop j (take k (drop at s))) (get_or-take k (drop at s) i 0 l ∙ get_or-drop at s i 0) (sym (add-one i))

  pub part_end : (i : ℕ) → k ≤ i → drop i (take k (drop at s)) ≡ []
  part_end i l = drop_of_length-le (take k (drop at s)) {i = i} (omega (arith, part_length))

  pub length-part_bits : length (map bit_of (take k (drop at s))) ≡ k
  length-part_bits = length-map (take k (drop at s)) bit_of ∙ part_length

  pub length_whole : length (bits_of (take k (drop at s))) ≡ k * 8
  length_whole = length_bits (take k (drop at s)) ∙ ap (λ (n : ℕ). n * 8) part_length
