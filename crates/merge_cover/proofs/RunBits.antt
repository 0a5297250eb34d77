-- Bits of one word that are neighbours, read and set at once.
-- Assumes nothing.
use mathlib.Core.Path.{◌≡◌, refl, sym, ap, ap₂, ◌∙◌}
use mathlib.Core.Logic.{◌≢◌}
use Prim.Native.Nat.{ℕ, zero, suc, ◌+◌, ◌-◌, ◌*◌, ◌/◌, ◌%◌, ◌^◌, ◌<◌, ◌≤◌, min}
use native.Mathlib.Nat.{pow-suc, pow-succ', div-one, mod-one, div-div-eq-div-mul, div-add-mod', mod-lt, min-le_left, min-le_right, le-min}
use native.Mathlib.Omega.{arith}
use mathlib.Core.Bool.{Bool, true, false}
use mathlib.Core.List.{List}
use lib.ListN.{length, get_or, set, length-set}
use lib.Seq.{get_or-set_same, get_or-set_other, set-get_or, set-set}
use lib.Arith.{mod-mul}
use lib.Pow.{pow_pos, pow_mono, field, shl-shr, shr-shr, shl_exact, ones_split, ones_lt, high, high_ones}
use lib.Dec.{eqb}
use borrow.Author.Tests.{eq-eqb, eqb-true}
use Rattle.array.specs.Answer.{gives, refuses, unless}
use Rattle.array.specs.Lists.{from}
use Rattle.merge_cover.specs.Bits.{bits_of, marks_of, bits_at}
use Rattle.merge_cover.specs.Marks.{marking}
use Rattle.merge_cover.proofs.BitLaws.{bit_at, bit_set, bit_fits, marks_at, marks_set}

-- ---- the low bits of a number

mod_more : (x n : ℕ) → x % 2 ^ suc n ≡ x / 2 % 2 ^ n * 2 + x % 2
mod_more x n = ap (λ (y : ℕ). x % y) (pow-suc 2 n) ∙ mod-mul x (pow_pos n) (omega arith)

div_more : (x j : ℕ) → x / 2 ^ suc j ≡ x / 2 / 2 ^ j
div_more x j = sym (div-div-eq-div-mul x 2 (2 ^ j) ∙ ap (λ (y : ℕ). x / y) (sym (pow-succ' 2 j)))

zero_bits : (n x j : ℕ) → j < n → x % 2 ^ n ≡ 0 → x / 2 ^ j % 2 ≡ 0
zero_bits zero x j h e = absurd (omega arith)
zero_bits (suc n) x zero h e = ap (λ (y : ℕ). y % 2) (div-one x) ∙ omega (arith, mod_more x n, e)
zero_bits (suc n) x (suc j) h e = ap (λ (y : ℕ). y % 2) (div_more x j) ∙ zero_bits n (x / 2) j (omega arith) (omega (arith, mod_more x n, e))

-- marks that are the bits of x, and not all 0: one of them hinders
stops : (m : List ℕ) (n i x : ℕ) → ((j : ℕ) → j < n → get_or m (i + j) 0 ≡ x / 2 ^ j % 2) → x % 2 ^ n ≢ 0 → marking m (from i n) ≡ refuses 12
unfolding marking
stops m zero i x e f = absurd (f (mod-one x))
stops m (suc n) i x e f =
    go (eqb (get_or m i 0) 0) refl
    (stops (set m i 1) n (suc i) (x / 2)
    (λ j h. let r : suc i + j ≡ i + suc j = omega arith in
    get_or-set_other m i (suc i + j) 1 0 (λ q. omega (arith, q)) ∙ ap (λ (k : ℕ). get_or m k 0) r ∙ e (suc j) (omega arith) ∙ ap (λ (y : ℕ). y % 2) (div_more x j)))
  where
    first : get_or m i 0 ≡ x % 2
    first = let q : i ≡ i + 0 = omega arith in ap (λ (k : ℕ). get_or m k 0) q ∙ e 0 (omega arith) ∙ ap (λ (y : ℕ). y % 2) (div-one x)

    go : (b : Bool) → eqb (get_or m i 0) 0 ≡ b → (x / 2 % 2 ^ n ≢ 0 → marking (set m i 1) (from (suc i) n) ≡ refuses 12)
        → unless b 12 (marking (set m i 1) (from (suc i) n)) ≡ refuses 12
    go false t ih = refl
    go true t ih = ih (λ z. f (omega (arith, mod_more x n, z, first, eqb-true (get_or m i 0) 0 t)))

-- ---- bits b to b + n of word q, all 0, are set: the word then is w'

abbrev Clear : ℕ → ℕ → ℕ → Type 0
Clear w b n = (j : ℕ) → j < n → get_or (bits_of 64 w) (b + j) 0 ≡ 0

first_clear : (w b n : ℕ) → Clear w b (suc n) → get_or (bits_of 64 w) b 0 ≡ 0
first_clear w b n e = let q : b ≡ b + 0 = omega arith in ap (λ (k : ℕ). get_or (bits_of 64 w) k 0) q ∙ e 0 (omega arith)

others_clear : (w b n : ℕ) → b < 64 → Clear w b (suc n) → Clear (w + 2 ^ b) (suc b) n
others_clear w b n l e j h =
    let r : suc b + j ≡ b + suc j = omega arith in
    ap (λ (s : List ℕ). get_or s (suc b + j) 0) (bit_set 64 w b l (first_clear w b n e))
    ∙ get_or-set_other (bits_of 64 w) b (suc b + j) 1 0 (λ q. omega (arith, q))
    ∙ ap (λ (k : ℕ). get_or (bits_of 64 w) k 0) r ∙ e (suc j) (omega arith)

others-sum : (w b n w' : ℕ) → w' + 2 ^ b ≡ w + 2 ^ (b + suc n) → w' + 2 ^ suc b ≡ w + 2 ^ b + 2 ^ (suc b + n)
others-sum w b n w' e =
    let r : b + suc n ≡ suc b + n = omega arith in
    omega (arith, e, pow-succ' 2 b, ap (λ (k : ℕ). 2 ^ k) r)

no_sum : (w b w' : ℕ) → w' + 2 ^ b ≡ w + 2 ^ (b + 0) → w' ≡ w
no_sum w b w' e = let r : b + 0 ≡ b = omega arith in omega (arith, e, ap (λ (k : ℕ). 2 ^ k) r)

bits_fit : (n b w w' : ℕ) → w < 2 ^ 64 → b + n ≤ 64 → Clear w b n → w' + 2 ^ b ≡ w + 2 ^ (b + n) → w' < 2 ^ 64
bits_fit zero b w w' f l e s = omega (arith, no_sum w b w' s)
bits_fit (suc n) b w w' f l e s =
    bits_fit n (suc b) (w + 2 ^ b) w' (bit_fits 64 w b f (omega arith) (first_clear w b n e)) (omega arith)
    (others_clear w b n (omega arith) e) (others-sum w b n w' s)

bits_mark : (n q b : ℕ) (ws : List ℕ) {w : ℕ} (w' : ℕ) → get_or ws q 0 ≡ w → q < length ws → b + n ≤ 64 → Clear w b n → w' + 2 ^ b ≡ w + 2 ^ (b + n)
    → marking (marks_of ws) (from (q * 64 + b) n) ≡ gives (marks_of (set ws q w'))
unfolding marking
bits_mark zero q b ws {w} w' i h l e s =
    let r : get_or ws q 0 ≡ w' = omega (arith, i, no_sum w b w' s) in
    ap (λ (v : List ℕ). gives (marks_of v)) (sym (set-get_or ws q 0) ∙ ap (set ws q) r)
bits_mark (suc n) q b ws {w} w' i h l e s =
    let z : get_or (marks_of ws) (q * 64 + b) 0 ≡ 0 = marks_at ws q b h (omega arith) ∙ ap (λ (x : ℕ). get_or (bits_of 64 x) b 0) i ∙ first_clear w b n e in
    let r : suc (q * 64 + b) ≡ q * 64 + suc b = omega arith in
    ap (λ (t : Bool). unless t 12 (marking (set (marks_of ws) (q * 64 + b) 1) (from (suc (q * 64 + b)) n))) (eq-eqb (get_or (marks_of ws) (q * 64 + b) 0) 0 z)
    ∙ ap₂ (λ (m : List ℕ) (k : ℕ). marking m (from k n))
    (sym (marks_set ws q b (w + 2 ^ b) h (omega arith) (bit_set 64 w b (omega arith) (first_clear w b n e) ∙ ap (λ (x : ℕ). set (bits_of 64 x) b 1) (sym i)))) r
    ∙ bits_mark n q (suc b) (set ws q (w + 2 ^ b)) w' (get_or-set_same ws q (w + 2 ^ b) 0 h) (omega (arith, length-set ws q (w + 2 ^ b))) (omega arith)
    (others_clear w b n (omega arith) e) (others-sum w b n w' s)
    ∙ ap (λ (v : List ℕ). gives (marks_of v)) (set-set ws q (w + 2 ^ b) w')

-- ---- what the code computes

-- how far a run from i up to e goes in the word of i
pub in_word : (i e : ℕ) {n : ℕ} → i < e → n ≡ min (64 - i % 64) (e - i) → (1 ≤ n) × (i % 64 + n ≤ 64) × (i + n ≤ e)
in_word i e h q =
    let l : i % 64 < 64 = mod-lt i (omega arith) in
    let some : 1 ≤ min (64 - i % 64) (e - i) = le-min (omega arith) (omega arith) in (
      omega (arith, some),
      omega (arith, min-le_left (64 - i % 64) (e - i)),
      omega (arith, min-le_right (64 - i % 64) (e - i)),
    )

module _ (n : ℕ) (l : n ≤ 64) where
  whole : n + (64 - n) ≡ 64
  whole = omega arith

  pub ones_is : 18446744073709551615 / 2 ^ (64 - n) ≡ 2 ^ n - 1
  ones_is =
      ap (λ (k : ℕ). (2 ^ k - 1) / 2 ^ (64 - n)) (sym whole)
      ∙ ap (λ (x : ℕ). x / 2 ^ (64 - n)) (ones_split n (64 - n)) ∙ high (2 ^ n - 1) (64 - n) (ones_lt (64 - n))

  pub low_bits : (x : ℕ) → x * 2 ^ (64 - n) % 2 ^ 64 / 2 ^ (64 - n) ≡ x % 2 ^ n
  low_bits x =
      ap (λ (k : ℕ). x * 2 ^ (64 - n) % 2 ^ k / 2 ^ (64 - n)) (sym whole)
      ∙ field (x * 2 ^ (64 - n)) n (64 - n) ∙ ap (λ (y : ℕ). y % 2 ^ n) (shl-shr x (64 - n))

module _ (ws : List ℕ) (i n : ℕ) (h : i / 64 < length ws) (l : i % 64 + n ≤ 64) where
  abbrev word : ℕ
  word = get_or ws (i / 64) 0

  mark_in_word : (j : ℕ) → j < n → get_or (marks_of ws) (i + j) 0 ≡ word / 2 ^ (i % 64) / 2 ^ j % 2
  mark_in_word j k =
      let q : i + j ≡ i / 64 * 64 + (i % 64 + j) = omega (arith, div-add-mod' i 64) in
      ap (λ (x : ℕ). get_or (marks_of ws) x 0) q ∙ marks_at ws (i / 64) (i % 64 + j) h (omega arith) ∙ bit_at 64 word (i % 64 + j) (omega arith)
      ∙ ap (λ (x : ℕ). x % 2) (sym (shr-shr word (i % 64) j))

  pub run_stops : bits_at ws i n ≢ 0 → marking (marks_of ws) (from i n) ≡ refuses 12
  unfolding bits_at
  run_stops f = stops (marks_of ws) n i (word / 2 ^ (i % 64)) mark_in_word f

  module _ {v : ℕ} (o : v ≡ 2 ^ n - 1) (e : bits_at ws i n ≡ 0) where
    clear_bits : Clear word (i % 64) n
    unfolding bits_at
    clear_bits j k =
        bit_at 64 word (i % 64 + j) (omega arith) ∙ ap (λ (x : ℕ). x % 2) (sym (shr-shr word (i % 64) j)) ∙ zero_bits n (word / 2 ^ (i % 64)) j k e

    shifted : v * 2 ^ (i % 64) % 2 ^ 64 ≡ 2 ^ (n + i % 64) - 2 ^ (i % 64)
    shifted =
        ap (λ (x : ℕ). x * 2 ^ (i % 64) % 2 ^ 64) o ∙ shl_exact n (i % 64) 64 (ones_lt n) (omega arith) ∙ sym (high_ones n (i % 64))

    sum : word + v * 2 ^ (i % 64) % 2 ^ 64 + 2 ^ (i % 64) ≡ word + 2 ^ (i % 64 + n)
    sum =
        let r : n + i % 64 ≡ i % 64 + n = omega arith in
        let k : i % 64 ≤ n + i % 64 = omega arith in
        omega (arith, shifted, pow_mono k, ap (λ (x : ℕ). 2 ^ x) r)

    pub run_fits : word < 2 ^ 64 → word + v * 2 ^ (i % 64) % 2 ^ 64 < 2 ^ 64
    run_fits f = bits_fit n (i % 64) word (word + v * 2 ^ (i % 64) % 2 ^ 64) f l clear_bits sum

    pub run_marked : gives (marks_of (set ws (i / 64) (word + v * 2 ^ (i % 64) % 2 ^ 64))) ≡ marking (marks_of ws) (from i n)
    run_marked =
        sym (ap (λ (k : ℕ). marking (marks_of ws) (from k n)) (sym (div-add-mod' i 64))
        ∙ bits_mark n (i / 64) (i % 64) ws {w = word} (word + v * 2 ^ (i % 64) % 2 ^ 64) refl h l clear_bits sum)
