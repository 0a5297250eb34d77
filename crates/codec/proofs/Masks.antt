-- The forms of masks keep their laws: a byte a cell, and a bit a cell.
-- Assumes nothing.
use mathlib.Core.Path.{◌≡◌, refl, sym, ap, ap₂, ◌∙◌}
use Prim.Native.Nat.{ℕ, zero, suc, ◌+◌, ◌-◌, ◌*◌, ◌/◌, ◌%◌, ◌^◌, ◌<◌, ◌≤◌}
use native.Mathlib.Nat.{le_refl, zero-lt-suc, pow-zero, pow-suc}
use native.Mathlib.Omega.{arith}
use mathlib.Core.Bool.{Bool, true, false, ◌&&◌}
use mathlib.Core.List.{List, [], ◌∷◌, ◌++◌, map, append-nil}
use lib.ListN.{length, take, drop, replicate, length-append, length-map, length-drop, length-replicate, drop_of_length-le, take-append-drop}
use lib.Seq.{drop-append-add, take_at, drop_at, take_all, take-append-le, drop-append-le}
use lib.Dec.{leb, eqb}
use borrow.Author.Tests.{eqb-true, leb-true, leb-false, eq-eqb, eqb-false}
use Rattle.array.specs.Lists.{joined, pieces, All, every}
use Rattle.array.specs.Bytes.{digits, number}
use Rattle.array.specs.Kind.{Masks, as_bytes, as_bits}
use Rattle.array.specs.Cells.{Strict, strict_test, bit_of}
use Rattle.array.proofs.Bytes.{digits_number, length_digits, drop-digits, div_below, number_zeros}
use Rattle.array.proofs.Lists.{Sized, All-append, All-image, All-of, map-append, joined-append, length-joined, All-take, All-drop, length-pieces, sized-pieces, joined-pieces}
use Rattle.array.proofs.Rules.{left_of_lem, right_of, every_all, strict_test_lem}
use Rattle.array.proofs.Sums.{sum_of}
use Rattle.codec.specs.Mask.{bytes_for, padded, pack_bits, bits_of, packed_mask, mask_form}
use Rattle.codec.specs.Frame.{count_set, set_bits}
use Rattle.codec.proofs.Marks.{count-append, count_zeros}
use Rattle.codec.proofs.Frames.{MaskLaws}

-- ---- whole bytes

abbrev pub Bits : List ℕ → Type 0
Bits bs = All (λ b. b < 2) bs

pub bits_of_marks : (ms : List ℕ) → Bits (map bit_of ms)
bits_of_marks [] = tt
bits_of_marks (zero ∷ ms) = (omega arith, bits_of_marks ms)
bits_of_marks (suc zero ∷ ms) = (omega arith, bits_of_marks ms)
bits_of_marks (suc (suc m) ∷ ms) = (omega arith, bits_of_marks ms)

-- the bits of mask bytes are these
pub bits_strict : (ms : List ℕ) → All Strict ms → map bit_of ms ≡ ms
bits_strict [] p = refl
bits_strict (zero ∷ ms) p = ap (λ (r : List ℕ). 0 ∷ r) (bits_strict ms p.1)
bits_strict (suc zero ∷ ms) p = ap (λ (r : List ℕ). 1 ∷ r) (bits_strict ms p.1)
bits_strict (suc (suc m) ∷ ms) p = absurd (omega (arith, p.0))

pub bits_zeros : (n : ℕ) → Bits (replicate n 0)
bits_zeros zero = tt
bits_zeros (suc n) = (omega arith, bits_zeros n)

pub length-padded : (bs : List ℕ) → length (padded bs) ≡ bytes_for (length bs) * 8
length-padded bs = simp (length-append, length-replicate) (omega arith)

-- bits that were packed are there again, and 0 after them
all_pieces : (k n : ℕ) (bs : List ℕ) → Bits bs → All Bits (pieces k n bs)
all_pieces k zero bs p = tt
all_pieces k (suc n) bs p = (All-take (λ b. b < 2) k bs p, all_pieces k n (drop k bs) (All-drop (λ b. b < 2) k bs p))

digits-pieces : (vs : List (List ℕ)) → Sized 8 vs → All Bits vs → map (digits 2 8) (map (number 2) vs) ≡ vs
digits-pieces [] s p = refl
digits-pieces (v ∷ vs) s p =
    ap₂ (λ (x : List ℕ) (r : List (List ℕ)). x ∷ r)
    (ap (λ (k : ℕ). digits 2 k (number 2 v)) (sym s.0) ∙ digits_number 2 (zero-lt-suc 1) v p.0) (digits-pieces vs s.1 p.1)

pub sized-digits : (s : List ℕ) → Sized 8 (map (digits 2 8) s)
sized-digits s = All-image (λ v. length v ≡ 8) (digits 2 8) s (All-of (λ b. length (digits 2 8 b) ≡ 8) (length_digits 2 8) s)

pub length_bits : (s : List ℕ) → length (bits_of s) ≡ length s * 8
length_bits s = length-joined 8 (map (digits 2 8) s) (sized-digits s) ∙ ap (λ (n : ℕ). n * 8) (length-map s (digits 2 8))

pub bits_packed : (bs : List ℕ) → Bits bs → bits_of (pack_bits bs) ≡ padded bs
bits_packed bs p =
    let k : ℕ = bytes_for (length bs) in
    let l : length (padded bs) ≡ k * 8 = length-padded bs in
    ap joined (digits-pieces (pieces 8 k (padded bs)) (sized-pieces 8 k (padded bs) l)
    (all_pieces 8 k (padded bs) (All-append (λ b. b < 2) bs (replicate (k * 8 - length bs) 0) p (bits_zeros (k * 8 - length bs)))))
    ∙ joined-pieces 8 k (padded bs) l

zeros_test : (n : ℕ) → every (eqb 0) (replicate n 0) ≡ true
zeros_test zero = refl
zeros_test (suc n) = zeros_test n

-- of packed bits, the unused ones pass the test, and the others are said
module _ (bs : List ℕ) (p : Bits bs) where
  packed_passes : packed_mask.test (pack_bits bs) (length bs) ≡ true
  packed_passes =
      let k : ℕ = bytes_for (length bs) * 8 - length bs in
      ap (λ (xs : List ℕ). every (eqb 0) (drop (length bs) xs)) (bits_packed bs p) ∙ ap (every (eqb 0)) (drop_at bs (replicate k 0) (length bs) refl) ∙ zeros_test k

  packed_says : packed_mask.said (pack_bits bs) (length bs) ≡ bs
  packed_says = ap (take (length bs)) (bits_packed bs p) ∙ take_at bs (replicate (bytes_for (length bs) * 8 - length bs) 0) (length bs) refl

pub length-packed : (bs : List ℕ) → length (pack_bits bs) ≡ bytes_for (length bs)
length-packed bs = length-map (pieces 8 (bytes_for (length bs)) (padded bs)) (number 2) ∙ length-pieces 8 (bytes_for (length bs)) (padded bs)

-- packing goes byte by byte: the first eight bits, then those after them
pub pack_next : (bs : List ℕ) → 1 ≤ length bs → pack_bits bs ≡ number 2 (take 8 bs) ∷ pack_bits (drop 8 bs)
pack_next bs h =
    let n : ℕ = length bs in
    let l : length (drop 8 bs) ≡ n - 8 = length-drop 8 bs in
    let k : bytes_for n ≡ suc (bytes_for (length (drop 8 bs))) = omega arith in
    ap (λ (j : ℕ). map (number 2) (pieces 8 j (padded bs))) k
    ∙ ap₂ (λ (x : ℕ) (r : List ℕ). x ∷ map (number 2) (pieces 8 (bytes_for (length (drop 8 bs))) r)) (first (leb 8 n) refl) (others (leb 8 n) refl)
  where
    first : (c : Bool) → leb 8 (length bs) ≡ c → number 2 (take 8 (padded bs)) ≡ number 2 (take 8 bs)
    first true e = ap (number 2) (take-append-le 8 bs (replicate (bytes_for (length bs) * 8 - length bs) 0) (leb-true 8 (length bs) e))
    first false e =
        let f : length bs < 8 = leb-false 8 (length bs) e in
        ap (number 2) (take_all 8 (padded bs) (omega (arith, length-padded bs))) ∙ number_zeros 2 bs (bytes_for (length bs) * 8 - length bs)
        ∙ ap (number 2) (sym (take_all 8 bs (omega arith)))

    others : (c : Bool) → leb 8 (length bs) ≡ c → drop 8 (padded bs) ≡ padded (drop 8 bs)
    others true e =
        let f : 8 ≤ length bs = leb-true 8 (length bs) e in
        let l : length (drop 8 bs) ≡ length bs - 8 = length-drop 8 bs in
        let j : bytes_for (length bs) * 8 - length bs ≡ bytes_for (length (drop 8 bs)) * 8 - length (drop 8 bs) = omega arith in
        drop-append-le 8 bs (replicate (bytes_for (length bs) * 8 - length bs) 0) f ∙ ap (λ (i : ℕ). drop 8 bs ++ replicate i 0) j
    others false e =
        let f : length bs < 8 = leb-false 8 (length bs) e in
        drop_of_length-le (padded bs) {i = 8} (omega (arith, length-padded bs)) ∙ ap padded (sym (drop_of_length-le bs {i = 8} (omega arith)))

-- what fills whole bytes is packed by itself
pub pack_append : (k : ℕ) (bs cs : List ℕ) → length bs ≡ k * 8 → pack_bits (bs ++ cs) ≡ pack_bits bs ++ pack_bits cs
pack_append zero [] cs e = refl
pack_append zero (b ∷ bs) cs e = absurd (omega arith)
pack_append (suc k) bs cs e =
    let l : length (bs ++ cs) ≡ length bs + length cs = length-append bs cs in
    let f : 8 ≤ length bs = omega arith in
    pack_next (bs ++ cs) (omega arith)
    ∙ ap₂ (λ (x r : List ℕ). number 2 x ∷ pack_bits r) (take-append-le 8 bs cs f) (drop-append-le 8 bs cs f)
    ∙ ap (λ (r : List ℕ). number 2 (take 8 bs) ∷ r) (pack_append k (drop 8 bs) cs (length-drop 8 bs ∙ omega arith))
    ∙ ap (λ (r : List ℕ). r ++ pack_bits cs) (sym (pack_next bs (omega arith)))

-- ---- set bits and unused bits by bytes, as code speaks of a packed mask

pub count_bits : (s : List ℕ) → count_set (bits_of s) ≡ sum_of set_bits s
count_bits [] = refl
count_bits (b ∷ s) = count-append (digits 2 8 b) (bits_of s) ∙ ap (λ (n : ℕ). set_bits b + n) (count_bits s)

pub zeros_of : (s : List ℕ) → every (eqb 0) s ≡ true → s ≡ replicate (length s) 0
zeros_of [] e = refl
zeros_of (b ∷ s) e = ap₂ (λ (x : ℕ) (r : List ℕ). x ∷ r) (sym (eqb-true 0 b (left_of_lem (eqb 0 b) (every (eqb 0) s) e))) (zeros_of s (right_of (eqb 0 b) (every (eqb 0) s) e))

-- the test of a packed mask looks at its last byte, where that has unused bits
zeros_digits : (w m : ℕ) → m < 2 ^ w → every (eqb 0) (digits 2 w m) ≡ eqb m 0
zeros_digits zero m h = sym (eq-eqb m 0 (omega (arith, rw pow-zero at h)))
zeros_digits (suc w) m h = ap (λ (c : Bool). eqb 0 (m % 2) && c) (zeros_digits w (m / 2) (omega (arith, rw pow-suc at h))) ∙ go (eqb m 0) refl
  where
    go : (c : Bool) → eqb m 0 ≡ c → eqb 0 (m % 2) && eqb (m / 2) 0 ≡ c
    go true e = let z : m ≡ 0 = eqb-true m 0 e in rw z
    go false e = both_false (eqb 0 (m % 2)) refl (eqb (m / 2) 0) refl
      where
        both_false : (a : Bool) → eqb 0 (m % 2) ≡ a → (b : Bool) → eqb (m / 2) 0 ≡ b → a && b ≡ false
        both_false false p b q = refl
        both_false true p false q = refl
        both_false true p true q = absurd (eqb-false m 0 e (omega (arith, eqb-true 0 (m % 2) p, eqb-true (m / 2) 0 q)))

pub packed_test : (s : List ℕ) (b j r : ℕ) → length s ≡ j → b < 256 → packed_mask.test (s ++ (b ∷ [])) (j * 8 + r) ≡ eqb (b / 2 ^ r) 0
packed_test s b j r l h =
    let e : bits_of (s ++ (b ∷ [])) ≡ bits_of s ++ digits 2 8 b =
    ap joined (map-append (digits 2 8) s (b ∷ [])) ∙ joined-append (map (digits 2 8) s) (digits 2 8 b ∷ []) ∙ ap (λ (x : List ℕ). bits_of s ++ x) (append-nil (digits 2 8 b)) in
    let lb : length (bits_of s) ≡ j * 8 = length_bits s ∙ ap (λ (n : ℕ). n * 8) l in
    ap (λ (x : List ℕ). every (eqb 0) (drop (j * 8 + r) x)) e
    ∙ ap (every (eqb 0)) (ap (λ (n : ℕ). drop (n + r) (bits_of s ++ digits 2 8 b)) (sym lb) ∙ drop-append-add (bits_of s) (digits 2 8 b) r ∙ drop-digits 2 8 b r)
    ∙ zeros_digits (8 - r) (b / 2 ^ r) (div_below 2 (zero-lt-suc 1) 8 b r h)

-- the set cells of a packed mask that passes its test are the set bits of its bytes
pub count-packed : (s : List ℕ) (n : ℕ) → packed_mask.test s n ≡ true → count_set (packed_mask.said s n) ≡ sum_of set_bits s
count-packed s n e =
    let bs : List ℕ = bits_of s in
    let z : count_set (drop n bs) ≡ 0 = ap count_set (zeros_of (drop n bs) e) ∙ count_zeros (length (drop n bs)) in
    omega (arith, z, count-append (take n bs) (drop n bs), ap count_set (take-append-drop n bs)) ∙ count_bits s

-- ---- the laws

pub mask_laws : (x : Masks) → MaskLaws (mask_form x)
mask_laws as_bytes = record {
  size_le = λ n. le_refl n;
  size_append = λ m n e. refl;
  length_put = λ ms. refl;
  put_append = λ ms ns e. refl;
  passes = every_all Strict strict_test strict_test_lem;
  says = λ ms p. refl;
}
mask_laws as_bits = record {
  size_le = λ n. omega arith;
  size_append = λ m n e. omega arith;
  length_put = λ ms. length-packed (map bit_of ms) ∙ ap bytes_for (length-map ms bit_of);
  put_append = λ ms ns e.
      ap pack_bits (map-append bit_of ms ns) ∙ pack_append (length ms / 8) (map bit_of ms) (map bit_of ns) (length-map ms bit_of ∙ omega arith);
  passes = λ ms p. ap (packed_mask.test (pack_bits (map bit_of ms))) (sym (length-map ms bit_of)) ∙ packed_passes (map bit_of ms) (bits_of_marks ms);
  says = λ ms p. ap (packed_mask.said (pack_bits (map bit_of ms))) (sym (length-map ms bit_of)) ∙ packed_says (map bit_of ms) (bits_of_marks ms) ∙ bits_strict ms p;
}
