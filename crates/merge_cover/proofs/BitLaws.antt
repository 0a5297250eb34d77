-- A bit of a word, and the marks that words hold.
-- Assumes nothing.
use mathlib.Core.Path.{◌≡◌, refl, sym, ap, ap₂, ◌∙◌}
use Prim.Native.Nat.{ℕ, zero, suc, ◌+◌, ◌*◌, ◌/◌, ◌%◌, ◌^◌, ◌<◌}
use native.Mathlib.Nat.{pow-succ', div-one, div-div-eq-div-mul, add-mul-mod_self_left, add-mul-div_left}
use native.Mathlib.Omega.{arith}
use mathlib.Core.List.{List, [], ◌∷◌, ◌++◌}
use lib.ListN.{length, get_or, set, replicate, replicate-append-replicate, get_or-append}
use lib.Seq.{get_or-append-add, set-append_left}
use Rattle.array.specs.Limits.{most_cells}
use Rattle.merge_cover.specs.Bits.{bits_of, marks_of, no_words}
use Rattle.merge_cover.specs.Marks.{unmarked}

length_bits : (k w : ℕ) → length (bits_of k w) ≡ k
unfolding bits_of
length_bits zero w = refl
length_bits (suc k) w = ap suc (length_bits k (w / 2))

-- ---- one word

pub bit_at : (k w b : ℕ) → b < k → get_or (bits_of k w) b 0 ≡ w / 2 ^ b % 2
unfolding bits_of
bit_at zero w b h = absurd (omega arith)
bit_at (suc k) w zero h = ap (λ (x : ℕ). x % 2) (sym (div-one w))
bit_at (suc k) w (suc b) h =
    bit_at k (w / 2) b (omega arith) ∙ ap (λ (x : ℕ). x % 2) (div-div-eq-div-mul w 2 (2 ^ b) ∙ ap (λ (x : ℕ). w / x) (sym (pow-succ' 2 b)))

even_next : (w : ℕ) → w % 2 ≡ 0 → ((w + 1) % 2 ≡ 1) × ((w + 1) / 2 ≡ w / 2)
even_next w e = (omega arith, omega arith)

pub bit_set : (k w b : ℕ) → b < k → get_or (bits_of k w) b 0 ≡ 0 → bits_of k (w + 2 ^ b) ≡ set (bits_of k w) b 1
unfolding bits_of
bit_set zero w b h e = absurd (omega arith)
bit_set (suc k) w zero h e = ap₂ (λ (x : ℕ) (r : ℕ). x ∷ bits_of k r) (even_next w e).0 (even_next w e).1
bit_set (suc k) w (suc b) h e =
    ap (bits_of (suc k)) (ap (λ (x : ℕ). w + x) (pow-succ' 2 b))
    ∙ ap₂ (λ (x : ℕ) (r : ℕ). x ∷ bits_of k r) (add-mul-mod_self_left w 2 (2 ^ b)) (add-mul-div_left w (2 ^ b) (omega arith))
    ∙ ap (λ (r : List ℕ). w % 2 ∷ r) (bit_set k (w / 2) b (omega arith) e)

pub bit_fits : (k w b : ℕ) → w < 2 ^ k → b < k → get_or (bits_of k w) b 0 ≡ 0 → w + 2 ^ b < 2 ^ k
unfolding bits_of
bit_fits zero w b l h e = absurd (omega arith)
bit_fits (suc k) w zero l h e = omega (arith, pow-succ' 2 k)
bit_fits (suc k) w (suc b) l h e =
    let l' : w / 2 < 2 ^ k = omega (arith, pow-succ' 2 k) in
    omega (arith, pow-succ' 2 k, pow-succ' 2 b, bit_fits k (w / 2) b l' (omega arith) e)

-- ---- all words

set-append-add : (xs ys : List ℕ) (n a : ℕ) → set (xs ++ ys) (length xs + n) a ≡ xs ++ set ys n a
set-append-add [] ys n a = let q : 0 + n ≡ n = omega arith in ap (λ (k : ℕ). set ys k a) q
set-append-add (x ∷ xs) ys n a =
    let q : suc (length xs) + n ≡ suc (length xs + n) = omega arith in
    ap (λ (k : ℕ). set (x ∷ xs ++ ys) k a) q ∙ ap (λ (r : List ℕ). x ∷ r) (set-append-add xs ys n a)

word_split : (w q b : ℕ) → suc q * 64 + b ≡ length (bits_of 64 w) + (q * 64 + b)
word_split w q b = omega (arith, length_bits 64 w)

pub marks_at : (ws : List ℕ) (q b : ℕ) → q < length ws → b < 64 → get_or (marks_of ws) (q * 64 + b) 0 ≡ get_or (bits_of 64 (get_or ws q 0)) b 0
unfolding marks_of
marks_at [] q b h l = absurd (omega arith)
marks_at (w ∷ ws) zero b h l =
    let z : 0 * 64 + b ≡ b = omega arith in
    ap (λ (k : ℕ). get_or (bits_of 64 w ++ marks_of ws) k 0) z ∙ get_or-append (bits_of 64 w) (marks_of ws) 0 b (omega (arith, length_bits 64 w))
marks_at (w ∷ ws) (suc q) b h l =
    ap (λ (k : ℕ). get_or (bits_of 64 w ++ marks_of ws) k 0) (word_split w q b)
    ∙ get_or-append-add (bits_of 64 w) (marks_of ws) (q * 64 + b) 0 ∙ marks_at ws q b (omega arith) l

pub marks_set : (ws : List ℕ) (q b w' : ℕ) → q < length ws → b < 64 → bits_of 64 w' ≡ set (bits_of 64 (get_or ws q 0)) b 1
    → marks_of (set ws q w') ≡ set (marks_of ws) (q * 64 + b) 1
unfolding marks_of
marks_set [] q b w' h l e = absurd (omega arith)
marks_set (w ∷ ws) zero b w' h l e =
    let z : b ≡ 0 * 64 + b = omega arith in
    ap (λ (r : List ℕ). r ++ marks_of ws) e ∙ sym (set-append_left (bits_of 64 w) (marks_of ws) b 1 (omega (arith, length_bits 64 w)))
    ∙ ap (λ (k : ℕ). set (bits_of 64 w ++ marks_of ws) k 1) z
marks_set (w ∷ ws) (suc q) b w' h l e =
    ap (λ (r : List ℕ). bits_of 64 w ++ r) (marks_set ws q b w' (omega arith) l e) ∙ sym (set-append-add (bits_of 64 w) (marks_of ws) (q * 64 + b) 1)
    ∙ ap (λ (k : ℕ). set (bits_of 64 w ++ marks_of ws) k 1) (sym (word_split w q b))

-- ---- no mark

bits_zero : (k : ℕ) → bits_of k 0 ≡ replicate k 0
unfolding bits_of
bits_zero zero = refl
bits_zero (suc k) = ap (λ (r : List ℕ). 0 ∷ r) (bits_zero k)

words_zero : (n : ℕ) → marks_of (replicate n 0) ≡ replicate (n * 64) 0
unfolding marks_of
words_zero zero = refl
words_zero (suc n) =
    let q : 64 + n * 64 ≡ suc n * 64 = omega arith in
    ap₂ (λ (x y : List ℕ). x ++ y) (bits_zero 64) (words_zero n) ∙ replicate-append-replicate {A = ℕ} 64 (n * 64) 0 ∙ ap (λ (k : ℕ). replicate k 0) q

pub none_marked : {ws : List ℕ} → ws ≡ no_words → marks_of ws ≡ unmarked
unfolding no_words unmarked most_cells
none_marked e = ap marks_of e ∙ words_zero 1024
