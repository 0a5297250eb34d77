-- The count of ones: of a byte it is how many of its bits are set, and of bytes read as one number the sum over them.
-- Assumes nothing.
use mathlib.Core.Path.{◌≡◌, refl, sym, ap, ap₂, subst, ◌∙◌}
use Prim.Native.Nat.{ℕ, zero, suc, ◌+◌, ◌*◌, ◌/◌, ◌%◌, ◌^◌, ◌<◌}
use native.Mathlib.Nat.{pow-zero, pow-suc, mod-lt, zero-lt-suc, add_comm}
use native.Mathlib.Omega.{arith}
use mathlib.Core.List.{List, [], ◌∷◌, ◌++◌}
use lib.ListN.{length, get_or, take, drop, take-append-drop}
use lib.Seq.{take_all}
use lib.Arith.{lt-one}
use lib.Count.{ones, ones_step, ones_cat}
use Rattle.array.specs.Lists.{All}
use Rattle.array.specs.Bytes.{digits, number, unle, AllBytes}
use Rattle.array.proofs.Lists.{All-take, All-drop}
use Rattle.array.specs.Cells.{mark_of}
use Rattle.codec.specs.Frame.{count_by, count_set, set_bits}
use Rattle.mask_bits.specs.Bits.{bits_in}

-- a bit counts as what it is
bit_counts : (b n : ℕ) → b < 2 → count_by (mark_of b) n ≡ b + n
bit_counts zero n h = omega arith
bit_counts (suc zero) n h = omega arith
bit_counts (suc (suc b)) n h = absurd (omega arith)

ones_digits : (w n : ℕ) → n < 2 ^ w → ones n ≡ count_set (digits 2 w n)
unfolding ones
ones_digits zero n h = ap ones (lt-one (rw pow-zero at h))
ones_digits (suc w) n h =
    ones_step n ∙ ap (λ (k : ℕ). n % 2 + k) (ones_digits w (n / 2) (omega (arith, rw pow-suc at h)))
    ∙ sym (bit_counts (n % 2) (count_set (digits 2 w (n / 2))) (mod-lt n (zero-lt-suc 1)))

pub ones_byte : (b : ℕ) → b < 256 → ones b ≡ set_bits b
ones_byte b h = ones_digits 8 b h

pub ones_bytes : (s : List ℕ) → All (λ b. b < 256) s → ones (number 256 s) ≡ bits_in s
unfolding ones
ones_bytes [] p = refl
ones_bytes (b ∷ s) p =
    let e : b + 256 * number 256 s ≡ number 256 s * 2 ^ 8 + b = omega arith in
    ap ones e ∙ ones_cat 8 (number 256 s) b p.0 ∙ ap₂ (λ (x y : ℕ). x + y) (ones_bytes s p.1) (ones_byte b p.0) ∙ add_comm (bits_in s) (set_bits b)

-- the elements of a slice are bytes, and so are those of its parts
pub all_bytes : (s : List ℕ) → ((i : ℕ) → get_or s i 0 < 256) → All (λ b. b < 256) s
all_bytes [] f = tt
all_bytes (b ∷ s) f = (f 0, all_bytes s (λ i. f (suc i)))

pub part_bytes : (s : List ℕ) → ((i : ℕ) → get_or s i 0 < 256) → (at k : ℕ) → AllBytes (take k (drop at s))
part_bytes s f at k = All-take (λ b. b < 256) k (drop at s) (All-drop (λ b. b < 256) at s (all_bytes s f))

bits_append : (s t : List ℕ) → bits_in (s ++ t) ≡ bits_in s + bits_in t
bits_append [] t = omega arith
bits_append (b ∷ s) t = omega (arith, bits_append s t)

all_front : (s t : List ℕ) → AllBytes (s ++ t) → AllBytes s × AllBytes t
all_front [] t p = (tt, p)
all_front (b ∷ s) t p = let q = all_front s t p.1 in ((p.0, q.0), q.1)

-- eight bytes, read as one number, and what is left after them
pub word_next : (left word rest : List ℕ) → left ≡ word ++ rest → length word ≡ 8 → AllBytes left
    → (bits_in left ≡ ones (unle (take 8 (drop 0 word))) + bits_in rest) × AllBytes rest
unfolding unle
word_next left word rest e n p =
    let parts = all_front word rest (subst AllBytes e p) in
    let whole : take 8 word ≡ word = take_all 8 word (omega (arith, n)) in
    let counted : ones (number 256 (take 8 word)) ≡ bits_in word = ap (λ (s : List ℕ). ones (number 256 s)) whole ∙ ones_bytes word parts.0 in
    (omega (arith, ap bits_in e ∙ bits_append word rest, counted), parts.1)

-- bytes are those of whole words and those after them
pub bits_parts : (s : List ℕ) (whole : ℕ) → bits_in s ≡ bits_in (take whole s) + bits_in (drop whole s)
bits_parts s whole = ap bits_in (sym (take-append-drop whole s)) ∙ bits_append (take whole s) (drop whole s)
