-- Read eight cells a step: a byte is read into a word of mask bytes 00 and 01. The rule is computed over all entries.
-- Assumes nothing.
use mathlib.Core.Path.{◌≡◌, refl, sym, ap, ap₂, ◌∙◌, subst}
use Prim.Native.Nat.{ℕ, zero, suc, ◌+◌, ◌-◌, ◌*◌, ◌/◌, ◌%◌, ◌<◌, ◌≤◌}
use native.Mathlib.Omega.{arith}
use mathlib.Core.Bool.{Bool, true, false}
use mathlib.Core.List.{List, [], ◌++◌, map, append-nil, append_assoc}
use lib.ListN.{length, get_or, take, drop, replicate, length-append, length-drop, take-append-drop, replicate-append-replicate}
use lib.Seq.{take-add, take-append-le, take-append-add, length-take-le, drop-cons, drop-drop, get_or-drop}
use lib.Dec.{leb}
use lib.Bits.{bit_and}
use borrow.Author.Tests.{leb-true, leb-false}
use Rattle.array.specs.Lists.{All, from}
use Rattle.array.specs.Bytes.{digits, le, unle}
use Rattle.array.specs.Buffers.{over, over_at}
use Rattle.array.proofs.Lists.{entry}
use Rattle.array.proofs.Bytes.{length_digits, le-unle}
use Rattle.array.proofs.Over.{over_again}
use Rattle.codec.specs.Mask.{packed_mask, bytes_for, bits_of}
use Rattle.codec.specs.MaskAt.{said_mask}
use Rattle.mask_bits.proofs.Ones.{part_bytes}
use Rattle.mask_bits.proofs.Said.{bits_append, said_packed}
use Rattle.mask_bits.proofs.Parts.{length_whole}

-- ---- reading

abbrev eight_of : ℕ → ℕ
eight_of b = bit_and ((bit_and (b * 72340172838076673) 9241421688590303745 + 9187201950435737471) / 128) 72340172838076673

eight : map (λ b. digits 256 8 (eight_of b)) (from 0 256) ≡ map (digits 2 8) (from 0 256)
eight = refl

pub eight_at : (b : ℕ) → b < 256 → le 8 (eight_of b) ≡ digits 2 8 b
unfolding le
eight_at b h =
    let all : List (List ℕ) = map (λ k. digits 256 8 (eight_of k)) (from 0 256) in
    sym (entry (λ k. digits 256 8 (eight_of k)) {l = all} 256 refl [] b h) ∙ entry (digits 2 8) 256 eight [] b h

-- ---- bytes that are all alike

-- what holds below i and at i holds below i + 1
pub one_more : {P : ℕ → Type 0} (i : ℕ) → ((j : ℕ) → j < i → P j) → P i → (j : ℕ) → j < i + 1 → P j
one_more {P} i f p j h = go (leb i j) refl
  where
    go : (c : Bool) → leb i j ≡ c → P j
    go true e = let q : i ≡ j = omega (arith, leb-true i j e) in subst P q p
    go false e = f j (leb-false i j e)

-- the cells of `count` times eight bytes, each eight of which are the number w
module _ (s : List ℕ) (f : (i : ℕ) → get_or s i 0 < 256) {w v : ℕ} (e : bits_of (le 8 w) ≡ replicate 64 v) where
  eight_are : (at : ℕ) → at + 8 ≤ length s → unle (take 8 (drop at s)) ≡ w → bits_of (take 8 (drop at s)) ≡ replicate 64 v
  eight_are at h g =
      let bs : List ℕ = take 8 (drop at s) in
      let l : length bs ≡ 8 = length-take-le 8 (drop at s) (omega (arith, length-drop at s)) in
      let p : All (λ b. b < 256) bs = part_bytes s f at 8 in
      ap bits_of (sym (le-unle bs p) ∙ ap₂ le l g) ∙ e

  pub words_are : (count at : ℕ) → at + count * 8 ≤ length s → ((i : ℕ) → i < count → unle (take 8 (drop (at + i * 8) s)) ≡ w)
      → bits_of (take (count * 8) (drop at s)) ≡ replicate (count * 64) v
  words_are zero at h g = refl
  words_are (suc k) at h g =
      let a : suc k * 8 ≡ 8 + k * 8 = omega arith in
      let b : 64 + k * 64 ≡ suc k * 64 = omega arith in
      let z : at + 0 * 8 ≡ at = omega arith in
      let first : unle (take 8 (drop at s)) ≡ w = ap (λ (j : ℕ). unle (take 8 (drop j s))) (sym z) ∙ g 0 (omega arith) in
      let next : (i : ℕ) → i < k → unle (take 8 (drop (at + 8 + i * 8) s)) ≡ w =
      λ i q. let m : at + 8 + i * 8 ≡ at + suc i * 8 = omega arith in ap (λ (j : ℕ). unle (take 8 (drop j s))) m ∙ g (suc i) (omega arith) in
      ap (λ (j : ℕ). bits_of (take j (drop at s))) a ∙ ap bits_of (take-add 8 (k * 8) (drop at s)) ∙ bits_append (take 8 (drop at s)) (take (k * 8) (drop 8 (drop at s)))
      ∙ ap₂ (λ (x y : List ℕ). x ++ y) (eight_are at (omega arith) first) (ap (λ (r : List ℕ). bits_of (take (k * 8) r)) (drop-drop 8 at s) ∙ words_are k (at + 8) (omega arith) next)
      ∙ replicate-append-replicate 64 (k * 64) v ∙ ap (λ (j : ℕ). replicate {A = ℕ} j v) b

-- the cells of the first k bytes, and of the others
pub bits_parts : (s : List ℕ) (at k n : ℕ) → k ≤ n → bits_of (take k (drop at s)) ++ bits_of (take (n - k) (drop (at + k) s)) ≡ bits_of (take n (drop at s))
bits_parts s at k n h =
    let e : k + (n - k) ≡ n = omega arith in
    sym (bits_append (take k (drop at s)) (take (n - k) (drop (at + k) s)))
    ∙ ap bits_of (ap (λ (r : List ℕ). take k (drop at s) ++ take (n - k) r) (sym (drop-drop k at s)) ∙ sym (take-add k (n - k) (drop at s)) ∙ ap (λ (j : ℕ). take j (drop at s)) e)

pub null_words : bits_of (le 8 0) ≡ replicate 64 0
unfolding le
null_words = refl

pub set_words : bits_of (le 8 18446744073709551615) ≡ replicate 64 1
unfolding le
set_words = refl

-- ---- a packed mask, part by part

-- what a packed mask says: the bits of its whole bytes, then the first of the byte after them
module _ (s : List ℕ) (at n : ℕ) (h : at + bytes_for n ≤ length s) where
  cells : take n (bits_of (drop at s)) ≡ bits_of (take (n / 8) (drop at s)) ++ take (n % 8) (bits_of (drop (n / 8) (drop at s)))
  cells =
      let k : ℕ = n / 8 in
      let whole : List ℕ = bits_of (take k (drop at s)) in
      let l : length whole ≡ k * 8 = length_whole s at k (omega arith) in
      let e : n ≡ length whole + n % 8 = omega arith in
      ap₂ take e (ap bits_of (sym (take-append-drop k (drop at s))) ∙ bits_append (take k (drop at s)) (drop k (drop at s)))
      ∙ take-append-add whole (bits_of (drop k (drop at s))) (n % 8)

  room : bytes_for n ≤ length (drop at s)
  room = omega (arith, length-drop at s)

  pub said_whole : n % 8 ≡ 0 → said_mask packed_mask s at n ≡ bits_of (take (n / 8) (drop at s))
  said_whole e = said_packed s at n room ∙ cells ∙ ap (λ (r : ℕ). bits_of (take (n / 8) (drop at s)) ++ take r (bits_of (drop (n / 8) (drop at s)))) e ∙ append-nil _

  pub said_some : 0 < n % 8 → said_mask packed_mask s at n ≡ bits_of (take (n / 8) (drop at s)) ++ take (n % 8) (digits 2 8 (get_or s (at + n / 8) 0))
  said_some l =
      let k : ℕ = n / 8 in
      let rest : List ℕ = bits_of (drop (suc k) (drop at s)) in
      let b : ℕ = get_or (drop at s) k 0 in
      let last : bits_of (drop k (drop at s)) ≡ digits 2 8 b ++ rest = ap bits_of (drop-cons (drop at s) k 0 (omega (arith, room))) in
      said_packed s at n room ∙ cells
      ∙ ap (λ (r : List ℕ). bits_of (take k (drop at s)) ++ r)
      (ap (take (n % 8)) last ∙ take-append-le (n % 8) (digits 2 8 b) rest (omega (arith, length_digits 2 8 b))
      ∙ ap (λ (x : ℕ). take (n % 8) (digits 2 8 x)) (get_or-drop at s k 0))

-- eight mask bytes that were laid over a block of eight
pub laid_block : (xs d : List ℕ) (k : ℕ) → k ≤ length xs → take k (over_at 0 xs d) ≡ take k xs
laid_block xs d k h = take-append-le k xs (drop (length xs) d) h

-- ---- laid part after part

pub over-parts : (to : ℕ) {k : ℕ} (xs ys d : List ℕ) {mid out : List ℕ} → length xs ≡ k → to + k ≤ length d → mid ≡ over_at to xs d → out ≡ over_at (to + k) ys mid → out ≡ over_at to (xs ++ ys) d
over-parts to {k = k} xs ys d l h e f =
    let front : length (take to d ++ xs) ≡ to + k = omega (arith, length-append (take to d) xs, length-take-le to d (omega arith)) in
    f ∙ ap (over_at (to + k) ys) e ∙ over_again (take to d ++ xs) ys d (to + k) front ∙ ap (λ (w : List ℕ). over w d) (append_assoc (take to d) xs ys)
