-- Packed a block at a time, eight cells a step: a word of mask bytes 00 and 01 is packed into its byte. The rule is computed over all entries.
-- Assumes nothing.
use mathlib.Core.Path.{◌≡◌, refl, sym, ap, ap₂, ◌∙◌}
use Prim.Native.Nat.{ℕ, zero, suc, ◌+◌, ◌-◌, ◌*◌, ◌^◌, ◌<◌, ◌≤◌, min}
use native.Mathlib.Nat.{pow-zero, pow-suc, zero-lt-suc, zero-add, suc-mul}
use native.Mathlib.Omega.{arith}
use mathlib.Core.Bool.{Bool, true, false}
use mathlib.Core.List.{List, [], ◌∷◌, ◌++◌, map, append-nil, append_assoc}
use lib.ListN.{length, take, drop, replicate, length-drop, length-replicate, take-append-drop}
use lib.Seq.{take-take, take-append-le, drop-append-le, length-take-le, drop-drop, drop_at}
use lib.Dec.{leb}
use borrow.Author.Tests.{leb-true, leb-false}
use Rattle.array.specs.Lists.{All, from, pieces}
use Rattle.array.specs.Bytes.{digits, number, unle}
use Rattle.array.specs.Buffers.{over_at}
use Rattle.array.specs.Cells.{bit_of}
use Rattle.array.proofs.Lists.{entry, map_id, map-append, All-append, All-take, All-drop, take_within}
use Rattle.array.proofs.Bytes.{digits_number}
use Rattle.codec.specs.Mask.{bytes_for, padded, pack_bits}
use Rattle.codec.proofs.Masks.{bits_zeros, length-padded, length-packed, pack_append}
use Rattle.mask_pack.specs.PackedWord.{packed_word}
use Rattle.mask_bits.proofs.Parts.{part_end, length-part_bits}

abbrev halves : List ℕ → ℕ
halves bs = packed_word (number 256 (take 4 bs)) (number 256 (take 4 (drop 4 bs)))

packs : map (λ x. halves (digits 2 8 x)) (from 0 256) ≡ from 0 256
packs = refl

-- bits make a number below the power of two
number_below : (bs : List ℕ) → All (λ b. b < 2) bs → number 2 bs < 2 ^ length bs
number_below [] p = rw pow-zero (zero-lt-suc 0)
number_below (b ∷ bs) p = let l : number 2 bs < 2 ^ length bs = number_below bs p.1 in rw pow-suc (omega (arith, p.0))

pub word_packed : (bs : List ℕ) → length bs ≡ 8 → All (λ b. b < 2) bs → packed_word (unle (take 4 bs)) (unle (take 4 (drop 4 bs))) ≡ number 2 bs
unfolding unle
word_packed bs l p =
    let x : ℕ = number 2 bs in
    let few : x < 256 = rw l at (number_below bs p) in
    let bits : digits 2 8 x ≡ bs = ap (λ (k : ℕ). digits 2 k x) (sym l) ∙ digits_number 2 (zero-lt-suc 1) bs p in
    ap halves (sym bits)
    ∙ sym (entry (λ i. halves (digits 2 8 i)) 256 (sym packs) 0 x few) ∙ entry (λ i. i) 256 (sym (map_id (from 0 256))) 0 x few

-- ---- a block at a time

pieces_front : (k n : ℕ) (s t : List ℕ) → n * k ≤ length s → pieces k n (s ++ t) ≡ pieces k n s
pieces_front k zero s t h = refl
pieces_front k (suc n) s t h =
    let l : k ≤ length s = omega (arith, suc-mul n k) in
    ap₂ (λ (a : List ℕ) (r : List (List ℕ)). a ∷ r) (take-append-le k s t l)
    (ap (pieces k n) (drop-append-le k s t l) ∙ pieces_front k n (drop k s) t (omega (arith, suc-mul n k, length-drop k s)))

-- words of a block
module _ (block : List ℕ) (count : ℕ) (p : All (λ b. b < 2) block) (h : count * 8 ≤ length block) where
  abbrev pub words_from : ℕ → List ℕ
  words_from i = map (number 2) (pieces 8 (count - i) (drop (i * 8) block))

  pub words_next : (i : ℕ) → i < count
      → words_from i ≡ packed_word (unle (take 4 (drop (i * 8) block))) (unle (take 4 (drop (i * 8 + 4) block))) ∷ words_from (i + 1)
  words_next i l =
      let k : count - i ≡ suc (count - (i + 1)) = omega arith in
      let e : i * 8 + 8 ≡ (i + 1) * 8 = omega arith in
      let bs : List ℕ = take 8 (drop (i * 8) block) in
      let low : take 4 bs ≡ take 4 (drop (i * 8) block) = take-take 4 8 (drop (i * 8) block) (omega arith) in
      let high : take 4 (drop 4 bs) ≡ take 4 (drop (i * 8 + 4) block) = take_within 4 4 8 (drop (i * 8) block) (omega arith) ∙ ap (take 4) (drop-drop 4 (i * 8) block) in
      ap (λ (j : ℕ). map (number 2) (pieces 8 j (drop (i * 8) block))) k
      ∙ ap₂ (λ (x : ℕ) (r : List ℕ). x ∷ map (number 2) (pieces 8 (count - (i + 1)) r))
      (sym (word_packed bs (length-take-le 8 (drop (i * 8) block) (omega (arith, length-drop (i * 8) block)))
      (All-take (λ b. b < 2) 8 (drop (i * 8) block) (All-drop (λ b. b < 2) (i * 8) block p)))
      ∙ ap₂ (λ (a b : List ℕ). packed_word (unle a) (unle b)) low high)
      (drop-drop 8 (i * 8) block ∙ ap (λ (j : ℕ). drop j block) e)

  pub words_end : (i : ℕ) → count ≤ i → words_from i ≡ []
  words_end i l = let z : count - i ≡ 0 = omega arith in ap (λ (j : ℕ). map (number 2) (pieces 8 j (drop (i * 8) block))) z

-- a block of zeros under the bits is what they are padded with
pub block_packed : (bs : List ℕ) → length bs ≤ 256 → map (number 2) (pieces 8 (bytes_for (length bs)) (over_at 0 bs (replicate 256 0))) ≡ pack_bits bs
block_packed bs h =
    let k : ℕ = bytes_for (length bs) in
    let m : ℕ = k * 8 - length bs in
    let more : List ℕ = replicate (256 - length bs - m) 0 in
    let z : drop (length bs) (replicate {A = ℕ} 256 0) ≡ replicate m 0 ++ more = zeros_drop (length bs) m h (omega arith) in
    ap (λ (r : List ℕ). map (number 2) (pieces 8 k (bs ++ r))) z
    ∙ ap (λ (r : List ℕ). map (number 2) (pieces 8 k r)) (sym (append_assoc bs (replicate m 0) more))
    ∙ ap (map (number 2)) (pieces_front 8 k (padded bs) more (omega (arith, length-padded bs)))
  where
    replicate-add : (a b : ℕ) → replicate {A = ℕ} (a + b) 0 ≡ replicate a 0 ++ replicate b 0
    replicate-add zero b = ap (λ (k : ℕ). replicate {A = ℕ} k 0) (zero-add b)
    replicate-add (suc a) b = let e : suc a + b ≡ suc (a + b) = omega arith in ap (λ (k : ℕ). replicate {A = ℕ} k 0) e ∙ ap (λ (r : List ℕ). 0 ∷ r) (replicate-add a b)

    zeros_drop : (l m : ℕ) → l ≤ 256 → l + m ≤ 256 → drop l (replicate {A = ℕ} 256 0) ≡ replicate m 0 ++ replicate (256 - l - m) 0
    zeros_drop l m a b =
        let e : 256 ≡ l + (m + (256 - l - m)) = omega arith in
        ap (λ (k : ℕ). drop l (replicate {A = ℕ} k 0)) e ∙ ap (drop l) (replicate-add l (m + (256 - l - m)))
        ∙ drop_at (replicate l 0) (replicate (m + (256 - l - m)) 0) l (length-replicate l 0) ∙ replicate-add m (256 - l - m)

-- the packed mask of the n cells of a plane, from cell `done` on
abbrev pub packed_from : List ℕ → ℕ → ℕ → ℕ → List ℕ
packed_from planes at n done = pack_bits (map bit_of (drop done (take n (drop at planes))))

module _ (planes : List ℕ) (at n : ℕ) (h : at + n ≤ length planes) where
  pub length-packed-from : length (packed_from planes at n 0) ≡ bytes_for n
  length-packed-from = length-packed (map bit_of (take n (drop at planes))) ∙ ap bytes_for (length-part_bits planes at n h)

  pub packed_end : (done : ℕ) → n ≤ done → packed_from planes at n done ≡ []
  packed_end done l = ap (λ (xs : List ℕ). pack_bits (map bit_of xs)) (part_end planes at n h done l)

  pub packed_next : (done : ℕ) {count : ℕ} → done ≤ n → count ≡ min 256 (n - done)
      → packed_from planes at n done ≡ pack_bits (map bit_of (take count (drop (at + done) planes))) ++ packed_from planes at n (done + count)
  packed_next done {count} l e =
      let xs : List ℕ = drop done (take n (drop at planes)) in
      let front : take count xs ≡ take count (drop (at + done) planes) = take_within done count n (drop at planes) (omega arith) ∙ ap (take count) (drop-drop done at planes) in
      let back : drop count xs ≡ drop (done + count) (take n (drop at planes)) = drop-drop count done (take n (drop at planes)) in
      ap (λ (ys : List ℕ). pack_bits (map bit_of ys)) (sym (take-append-drop count xs)) ∙ ap pack_bits (map-append bit_of (take count xs) (drop count xs))
      ∙ go (leb 256 (n - done)) refl xs front back
    where
      go : (c : Bool) → leb 256 (n - done) ≡ c → (xs : List ℕ) → take count xs ≡ take count (drop (at + done) planes) → drop count xs ≡ drop (done + count) (take n (drop at planes))
          → pack_bits (map bit_of (take count xs) ++ map bit_of (drop count xs)) ≡ pack_bits (map bit_of (take count (drop (at + done) planes))) ++ packed_from planes at n (done + count)
      go true f xs a b =
          let q : 256 ≤ n - done = leb-true 256 (n - done) f in
          let len : length (map bit_of (take count xs)) ≡ 32 * 8 =
          ap (λ (ys : List ℕ). length (map bit_of ys)) a ∙ length-part_bits planes (at + done) count (omega arith) ∙ omega arith in
          pack_append 32 (map bit_of (take count xs)) (map bit_of (drop count xs)) len
          ∙ ap₂ (λ (ys zs : List ℕ). pack_bits (map bit_of ys) ++ pack_bits (map bit_of zs)) a b
      go false f xs a b =
          let q : n - done < 256 = leb-false 256 (n - done) f in
          let none : drop (done + count) (take n (drop at planes)) ≡ [] = part_end planes at n h (done + count) (omega arith) in
          ap₂ (λ (ys zs : List ℕ). pack_bits (map bit_of ys ++ map bit_of zs)) a (b ∙ none)
          ∙ ap pack_bits (append-nil (map bit_of (take count (drop (at + done) planes))))
          ∙ sym (ap (λ (zs : List ℕ). pack_bits (map bit_of (take count (drop (at + done) planes))) ++ pack_bits (map bit_of zs)) none ∙ append-nil _)

-- a block of zeros with bits laid over it has bits alone
pub block_bits : (bs : List ℕ) → All (λ b. b < 2) bs → All (λ b. b < 2) (over_at 0 bs (replicate 256 0))
block_bits bs p = All-append (λ b. b < 2) bs (drop (length bs) (replicate 256 0)) p (All-drop (λ b. b < 2) (length bs) (replicate 256 0) (bits_zeros 256))
