-- A packed mask by its place: what it says, its unused bits, and how many cells it sets.
-- Assumes nothing.
use mathlib.Core.Path.{◌≡◌, refl, sym, ap, ap₂, ◌∙◌}
use Prim.Native.Nat.{ℕ, zero, suc, ◌+◌, ◌*◌, ◌/◌, ◌%◌, ◌^◌, ◌<◌, ◌≤◌}
use native.Mathlib.Omega.{arith}
use mathlib.Core.Bool.{true}
use mathlib.Core.Logic.{◌≢◌}
use mathlib.Core.List.{List, [], ◌∷◌, ◌++◌, map}
use lib.ListN.{length, take, drop, get_or, length-take, length-drop, drop_of_length-le, take-append-drop}
use lib.Seq.{length-take-le, take-append-le, take-suc, get_or-drop}
use lib.Dec.{eqb}
use Rattle.array.specs.Lists.{joined, every}
use Rattle.array.specs.Bytes.{digits}
use Rattle.array.specs.Cells.{bit_of}
use Rattle.array.proofs.Lists.{map-append, joined-append}
use Rattle.array.proofs.Sums.{sum_of}
use Rattle.codec.specs.Mask.{packed_mask, bytes_for, bits_of}
use Rattle.codec.specs.Frame.{count_set, set_bits}
use Rattle.codec.proofs.Marks.{count-le}
use Rattle.codec.proofs.Masks.{length_bits, packed_test, count-packed}
use Rattle.mask_bits.specs.Bits.{bits_in}
use Rattle.codec.specs.MaskAt.{stored_mask, said_mask}

pub bits_append : (s t : List ℕ) → bits_of (s ++ t) ≡ bits_of s ++ bits_of t
bits_append s t = ap joined (map-append (digits 2 8) s t) ∙ joined-append (map (digits 2 8) s) (map (digits 2 8) t)

-- the first bits of the first bytes are the first bits
bits_take : (k n : ℕ) (s : List ℕ) → n ≤ k * 8 → k ≤ length s → take n (bits_of (take k s)) ≡ take n (bits_of s)
bits_take k n s h l =
    let e : bits_of s ≡ bits_of (take k s) ++ bits_of (drop k s) = ap bits_of (sym (take-append-drop k s)) ∙ bits_append (take k s) (drop k s) in
    sym (ap (take n) e ∙ take-append-le n (bits_of (take k s)) (bits_of (drop k s)) (omega (arith, length_bits (take k s), length-take-le k s l)))

-- what a packed mask of n cells says: the first n bits from its place on
pub said_packed : (s : List ℕ) (at n : ℕ) → bytes_for n ≤ length (drop at s) → said_mask packed_mask s at n ≡ take n (bits_of (drop at s))
said_packed s at n h = bits_take (bytes_for n) n (drop at s) (omega arith) h

-- ---- a packed mask by its bytes

bits_sum : (s : List ℕ) → bits_in s ≡ sum_of set_bits s
bits_sum [] = refl
bits_sum (b ∷ s) = ap (λ (n : ℕ). set_bits b + n) (bits_sum s)

module _ (s : List ℕ) (at n : ℕ) (h : at + bytes_for n ≤ length s) where
  room : bytes_for n ≤ length (drop at s)
  room = omega (arith, length-drop at s)

  -- whole bytes have no unused bit
  pub no_unused : n % 8 ≡ 0 → true ≡ packed_mask.test (stored_mask packed_mask s at n) n
  no_unused e =
      let mask : List ℕ = stored_mask packed_mask s at n in
      let l : length (bits_of mask) ≤ n = omega (arith, length_bits mask, length-take-le (bytes_for n) (drop at s) room) in
      sym (ap (every (eqb 0)) (drop_of_length-le (bits_of mask) l))

  -- else they are the highest of the last byte
  pub unused_last : n % 8 ≢ 0 → get_or s (at + n / 8) 0 < 256 → eqb (get_or s (at + n / 8) 0 / 2 ^ (n % 8)) 0 ≡ packed_mask.test (stored_mask packed_mask s at n) n
  unused_last e b =
      let k : ℕ = n / 8 in
      let size : bytes_for n ≡ suc k = omega arith in
      let last : get_or (drop at s) k 0 ≡ get_or s (at + k) 0 = get_or-drop at s k 0 in
      let mask : stored_mask packed_mask s at n ≡ take k (drop at s) ++ (get_or s (at + k) 0 ∷ []) =
      ap (λ (i : ℕ). take i (drop at s)) size ∙ take-suc (drop at s) k 0 (omega (arith, room)) ∙ ap (λ (x : ℕ). take k (drop at s) ++ (x ∷ [])) last in
      let cells : n ≡ k * 8 + n % 8 = omega arith in
      sym (ap₂ (λ (m : List ℕ) (i : ℕ). packed_mask.test m i) mask cells
      ∙ packed_test (take k (drop at s)) (get_or s (at + k) 0) k (n % 8) (length-take-le k (drop at s) (omega (arith, room))) b)

  -- of a mask that passes its test, the set bits of its bytes are its set cells, and no more than its cells
  pub count_left : packed_mask.test (stored_mask packed_mask s at n) n ≡ true → bits_in (stored_mask packed_mask s at n) ≡ count_set (said_mask packed_mask s at n)
  count_left e = let mask : List ℕ = stored_mask packed_mask s at n in bits_sum mask ∙ sym (count-packed mask n e)

  pub bits_few : packed_mask.test (stored_mask packed_mask s at n) n ≡ true → bits_in (stored_mask packed_mask s at n) ≤ n
  bits_few e =
      let mask : List ℕ = stored_mask packed_mask s at n in
      omega (arith, count_left e, count-le (take n (bits_of mask)), length-take n (bits_of mask))

-- ---- the bit that a mask byte says

pub bit_one : (b : ℕ) → count_set (b ∷ []) ≡ bit_of b
bit_one zero = refl
bit_one (suc zero) = refl
bit_one (suc (suc b)) = refl
