-- The library's words for the bytes of a number are those of array/specs/Bytes.antt, and numbers of fewer than eight bytes.
-- Assumes nothing.
use mathlib.Core.Path.{◌≡◌, refl, sym, ap, ap₂, ◌∙◌}
use mathlib.Core.List.{List, [], ◌∷◌, ◌++◌, reverse, reverse-append, append-nil}
use Prim.Native.Nat.{ℕ, zero, suc, ◌+◌, ◌-◌, ◌/◌, ◌%◌, ◌^◌, ◌≤◌}
use native.Mathlib.Nat.{div-one, div-div-eq-div-mul, pow-suc}
use native.Mathlib.Omega.{arith}
use lib.ListN.{length, take, drop, replicate, length-append, length-drop, length-replicate}
use lib.Seq.{length-take-le}
use borrow.Rule.Slice.PartMut.{put_mid}
use Rattle.std.specs.Int.{w64, bytes_low_first, to_le_bytes, from_le_bytes, from_be_bytes, swap_bytes}
use Rattle.std.proofs.lemmas.List.{take_all, take-replicate, drop-replicate}
use Rattle.std.proofs.lemmas.Slice.{put_mid-paste}
use Rattle.array.specs.Bytes.{digits, le, unle}
use Rattle.array.specs.Buffers.{over_at}
use Rattle.array.proofs.Bytes.{length-le, number_zeros}
use Rattle.array.proofs.Over.{paste_over}
use Rattle.buffer.proofs.Unrolled.{reads_take}

-- ---- the words

low_first : (i k n : ℕ) → bytes_low_first i k n ≡ digits 256 k (n / 256 ^ i)
low_first i zero n = refl
low_first zero (suc k) n =
    let one : n ≡ n / 256 ^ 0 = sym (div-one n) in
    ap₂ (λ (x : ℕ) (r : List ℕ). x % 256 ∷ r) one (low_first 1 k n ∙ ap (λ (x : ℕ). digits 256 k (x / 256)) one)
low_first (suc i) (suc k) n =
    let next : n / 256 ^ suc (suc i) ≡ n / 256 ^ suc i / 256 = ap (λ (x : ℕ). n / x) (pow-suc 256 (suc i)) ∙ sym (div-div-eq-div-mul n (256 ^ suc i) 256) in
    ap (λ (r : List ℕ). n / 256 ^ suc i % 256 ∷ r) (low_first (suc (suc i)) k n ∙ ap (digits 256 k) next)

pub to_le : (n : ℕ) → to_le_bytes w64 n ≡ le 8 n
unfolding le
to_le n = low_first 0 8 n ∙ ap (digits 256 8) (div-one n)

whole : (s : List ℕ) → length s ≡ 8 → take 8 (drop 0 s) ≡ s
whole s e = take_all 8 s (omega arith)

pub from_le : (s : List ℕ) → length s ≡ 8 → from_le_bytes w64 s ≡ unle s
unfolding unle
from_le s e = omega (arith, ap unle (reads_take s 0 8 (omega arith) ∙ whole s e))

pub from_be : (s : List ℕ) → length s ≡ 8 → from_be_bytes w64 s ≡ unle (reverse s)
unfolding unle
from_be s e = omega (arith, ap (λ (l : List ℕ). unle (reverse l)) (reads_take s 0 8 (omega arith) ∙ whole s e))

pub swap : (n : ℕ) → swap_bytes w64 n ≡ unle (reverse (le 8 n))
swap n = ap (from_be_bytes w64) (to_le n) ∙ from_be (le 8 n) (length-le 8 n)

-- ---- so few bytes that zeros are added, and left out

-- the n bytes at `at`, and zeros up to eight
pub few_read : (n at : ℕ) (s : List ℕ) → n ≤ 8 → at + n ≤ length s → {x : List ℕ} → x ≡ take n (drop at s)
    → {v : ℕ} → v ≡ from_le_bytes w64 (x ++ drop n (replicate 8 0)) → v ≡ unle (take n (drop at s))
unfolding unle
few_read n at s h room e f =
    let y : List ℕ = take n (drop at s) in
    let zeros : List ℕ = replicate 8 0 in
    let long : length y ≡ n = length-take-le n (drop at s) (omega (arith, length-drop at s)) in
    let eight : length (y ++ drop n zeros) ≡ 8 = omega (arith, length-append y (drop n zeros), length-drop n zeros) in
    f ∙ ap (λ (l : List ℕ). from_le_bytes w64 (l ++ drop n zeros)) e ∙ from_le (y ++ drop n zeros) eight
    ∙ ap (λ (l : List ℕ). unle (y ++ l)) {y = replicate (8 - n) 0} (drop-replicate n 8 0) ∙ number_zeros 256 y (8 - n)

few_digits : (n k v : ℕ) → take n (digits 256 (n + k) v) ≡ digits 256 n v
few_digits zero k v = refl
few_digits (suc n) k v =
    let e : suc n + k ≡ suc (n + k) = omega arith in
    ap (λ (j : ℕ). take (suc n) (digits 256 j v)) e ∙ ap (λ (r : List ℕ). v % 256 ∷ r) (few_digits n k (v / 256))

zeros_end : (k : ℕ) → ◌≡◌ {A = List ℕ} (replicate k 0 ++ (0 ∷ [])) (0 ∷ replicate k 0)
zeros_end zero = refl
zeros_end (suc k) = ap (λ (l : List ℕ). 0 ∷ l) (zeros_end k)

zeros_back : (k : ℕ) → ◌≡◌ {A = List ℕ} (reverse (replicate k 0)) (replicate k 0)
zeros_back zero = refl
zeros_back (suc k) = let one : List ℕ = 0 ∷ [] in reverse-append one (replicate k 0) ∙ ap (λ (l : List ℕ). l ++ one) (zeros_back k) ∙ zeros_end k

-- the same, the highest first: the zeros lie before them
pub few_read_back : (n at : ℕ) (s : List ℕ) → n ≤ 8 → at + n ≤ length s → {x : List ℕ} → x ≡ take n (drop at s)
    → {v : ℕ} → v ≡ from_be_bytes w64 (put_mid (8 - n) (8 - (8 - n)) (replicate 8 0) x) → v ≡ unle (reverse (take n (drop at s)))
unfolding unle
few_read_back n at s h room e f =
    let y : List ℕ = take n (drop at s) in
    let zeros : List ℕ = replicate 8 0 in
    let few : List ℕ = replicate (8 - n) 0 in
    let long : length y ≡ n = length-take-le n (drop at s) (omega (arith, length-drop at s)) in
    let behind : drop (8 - (8 - n)) (drop (8 - n) zeros) ≡ [] = short _ (omega (arith, length-drop (8 - (8 - n)) (drop (8 - n) zeros), length-drop (8 - n) zeros)) in
    let bytes : put_mid (8 - n) (8 - (8 - n)) zeros y ≡ few ++ y =
    ap₂ (λ (l r : List ℕ). l ++ (y ++ r)) (take-replicate (8 - n) 8 0 (omega arith)) behind ∙ ap (λ (r : List ℕ). few ++ r) (append-nil y) in
    let eight : length (few ++ y) ≡ 8 = omega (arith, length-append few y, length-replicate {A = ℕ} (8 - n) 0) in
    f ∙ ap (λ (l : List ℕ). from_be_bytes w64 (put_mid (8 - n) (8 - (8 - n)) zeros l)) e ∙ ap (from_be_bytes w64) bytes ∙ from_be (few ++ y) eight
    ∙ ap unle (reverse-append few y ∙ ap (λ (l : List ℕ). reverse y ++ l) (zeros_back (8 - n))) ∙ number_zeros 256 (reverse y) (8 - n)
  where
    short : (l : List ℕ) → length l ≡ 0 → l ≡ []
    short [] q = refl
    short (x ∷ l) q = absurd (omega arith)

-- what is written over a part of a slice
pub part_over : (at k : ℕ) (d x : List ℕ) → at + k ≤ length d → length x ≡ k → put_mid at (at + k - at) d x ≡ over_at at x d
part_over at k d x h e =
    put_mid-paste at (at + k - at) d x x k refl (omega arith) (sym e) ∙ paste_over d at x k (omega arith) (omega arith)
    ∙ ap (λ (l : List ℕ). over_at at l d) (take_all k x (omega arith))

-- the n lowest bytes of v
pub few_written : (n at v : ℕ) (d : List ℕ) → n ≤ 8 → at + n ≤ length d → {b x : List ℕ} → b ≡ to_le_bytes w64 v → x ≡ take n b
    → put_mid at (at + n - at) d x ≡ over_at at (le n v) d
unfolding le
few_written n at v d h room {b} {x} e f =
    let k : 8 ≡ n + (8 - n) = omega arith in
    let g : x ≡ le n v = f ∙ ap (take n) (e ∙ to_le v ∙ ap (λ (j : ℕ). le j v) k) ∙ few_digits n (8 - n) v in
    ap (put_mid at (at + n - at) d) g ∙ part_over at n d (le n v) room (length-le n v)
