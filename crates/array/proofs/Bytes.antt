-- Digits, for any base and width: as many as the width, read as they were written, and written as they were read.
-- Assumes nothing.
use mathlib.Core.Path.{◌≡◌, refl, sym, ap, ap₂, ◌∙◌, subst}
use Prim.Native.Nat.{ℕ, zero, suc, ◌+◌, ◌-◌, ◌*◌, ◌/◌, ◌%◌, ◌^◌, ◌<◌}
use native.Mathlib.Nat.{mod-add-div, mod-eq_of_lt, mod-lt, add-mul-mod_self_left, add-mul-div_left, div-eq_of_lt, div-lt_iff_lt-mul, pow-zero}
use native.Mathlib.Nat.{pow-suc, zero-lt-suc, zero-add, div-one, div-div-eq-div-mul, pow-succ', sub-zero, zero-div, mul-zero, mul-suc, mul-le-mul_left, add_comm}
use native.Mathlib.Omega.{arith}
use mathlib.Core.List.{List, [], ◌∷◌, ◌++◌}
use lib.ListN.{length, take, drop, replicate}
use lib.Arith.{lt-one}
use Rattle.array.specs.Lists.{All}
use Rattle.array.specs.Bytes.{digits, number, le, unle, AllBytes}
use Rattle.array.proofs.Lists.{All-take, All-drop}

module _ (b : ℕ) where
  pub length_digits : (w n : ℕ) → length (digits b w n) ≡ w
  length_digits zero n = refl
  length_digits (suc w) n = ap suc (length_digits w (n / b))

  module _ (some : 0 < b) where
    pub number_digits : (w n : ℕ) → n < b ^ w → number b (digits b w n) ≡ n
    number_digits zero n h = sym (lt-one (rw pow-zero at h))
    number_digits (suc w) n h =
        ap (λ (x : ℕ). n % b + b * x) (number_digits w (n / b) ((div-lt_iff_lt-mul some).1 (rw pow-suc at h))) ∙ mod-add-div n b

    pub number_below : (ds : List ℕ) → All (λ d. d < b) ds → number b ds < b ^ length ds
    number_below [] p = rw pow-zero (zero-lt-suc 0)
    number_below (d ∷ ds) p =
        omega (arith, p.0, mul-le-mul_left {m = suc (number b ds)} {n = b ^ length ds} b (number_below ds p.1), mul-suc b (number b ds), pow-succ' b (length ds))

    pub digits_number : (ds : List ℕ) → All (λ d. d < b) ds → digits b (length ds) (number b ds) ≡ ds
    digits_number [] p = refl
    digits_number (d ∷ ds) p =
        ap₂ (λ (x : ℕ) (r : List ℕ). x ∷ r) (add-mul-mod_self_left d b (number b ds) ∙ mod-eq_of_lt p.0)
        (ap (digits b (length ds)) (add-mul-div_left d (number b ds) some ∙ ap (λ (x : ℕ). x + number b ds) (div-eq_of_lt p.0) ∙ zero-add (number b ds))
        ∙ digits_number ds p.1)

    -- one digit more: it is the highest
    pub digits_more : (w i j : ℕ) → i < b → j < b ^ w → digits b (suc w) (i * b ^ w + j) ≡ digits b w j ++ (i ∷ [])
    digits_more zero i j hi h =
        let none : j ≡ 0 = lt-one (rw pow-zero at h) in
        let one : i * b ^ 0 + j ≡ i = ap₂ (λ (p k : ℕ). i * p + k) (pow-zero b) none ∙ omega arith in
        ap (λ (m : ℕ). m % b ∷ []) one ∙ ap (λ (m : ℕ). m ∷ []) (mod-eq_of_lt hi)
    digits_more (suc w) i j hi h =
        let apart : i * b ^ suc w + j ≡ j + b * (i * b ^ w) = ap (λ (p : ℕ). i * p + j) (pow-succ' b w) ∙ regroup i (b ^ w) j in
        let high : (j + b * (i * b ^ w)) / b ≡ i * b ^ w + j / b = add-mul-div_left j (i * b ^ w) some ∙ add_comm (j / b) (i * b ^ w) in
        ap (λ (m : ℕ). digits b (suc (suc w)) m) apart
        ∙ ap₂ (λ (x : ℕ) (r : List ℕ). x ∷ r) (add-mul-mod_self_left j b (i * b ^ w))
        (ap (digits b (suc w)) high ∙ digits_more w i (j / b) hi ((div-lt_iff_lt-mul some).1 (rw pow-suc at h)))
      where
        regroup : (i p j : ℕ) → i * (b * p) + j ≡ j + b * (i * p)
        regroup i p j = omega arith

    -- a number of w digits without its i lowest
    pub div_below : (w n i : ℕ) → n < b ^ w → n / b ^ i < b ^ (w - i)
    div_below w n zero h = rw (pow-zero, div-one, sub-zero) h
    div_below zero n (suc i) h =
        let e : 0 - suc i ≡ 0 = omega arith in
        let z : n ≡ 0 = lt-one (rw pow-zero at h) in
        rw (z, zero-div, e, pow-zero) (zero-lt-suc 0)
    div_below (suc w) n (suc i) h =
        let e : suc w - suc i ≡ w - i = omega arith in
        let q : n / b ^ suc i ≡ n / b / b ^ i = ap (λ (x : ℕ). n / x) (pow-succ' b i) ∙ sym (div-div-eq-div-mul n b (b ^ i)) in
        rw (q, e) (div_below w (n / b) i ((div-lt_iff_lt-mul some).1 (rw pow-suc at h)))

    pub digits_below : (w n : ℕ) → All (λ d. d < b) (digits b w n)
    digits_below zero n = tt
    digits_below (suc w) n = (mod-lt n some, digits_below w (n / b))

  -- the digits from i on
  pub drop-digits : (w n i : ℕ) → drop i (digits b w n) ≡ digits b (w - i) (n / b ^ i)
  drop-digits w n zero = ap₂ (digits b) (sym (sub-zero w)) (sym (ap (λ (x : ℕ). n / x) (pow-zero b) ∙ div-one n))
  drop-digits zero n (suc i) = let e : 0 - suc i ≡ 0 = omega arith in ap (λ (k : ℕ). digits b k (n / b ^ suc i)) (sym e)
  drop-digits (suc w) n (suc i) =
      let e : suc w - suc i ≡ w - i = omega arith in
      drop-digits w (n / b) i ∙ ap₂ (digits b) (sym e) (div-div-eq-div-mul n b (b ^ i) ∙ ap (λ (x : ℕ). n / x) (sym (pow-succ' b i)))

  -- zeros after the highest digit add nothing
  pub number_zeros : (ds : List ℕ) (k : ℕ) → number b (ds ++ replicate k 0) ≡ number b ds
  number_zeros [] zero = refl
  number_zeros [] (suc k) = ap (λ (x : ℕ). 0 + b * x) (number_zeros [] k) ∙ omega (arith, mul-zero b)
  number_zeros (d ∷ ds) k = ap (λ (x : ℕ). d + b * x) (number_zeros ds k)

-- ---- bytes

pub length-le : (w n : ℕ) → length (le w n) ≡ w
unfolding le
length-le w n = length_digits 256 w n

pub unle-le : (w n : ℕ) → n < 256 ^ w → unle (le w n) ≡ n
unfolding le unle
unle-le w n h = number_digits 256 (zero-lt-suc 255) w n h

pub le-unle : (s : List ℕ) → AllBytes s → le (length s) (unle s) ≡ s
unfolding le unle
le-unle s p = digits_number 256 (zero-lt-suc 255) s p

-- so many bytes are what their number is written as
pub number_again : {k : ℕ} (s : List ℕ) → length s ≡ k → AllBytes s → le k (unle s) ≡ s
number_again s e b = ap (λ (n : ℕ). le n (unle s)) (sym e) ∙ le-unle s b

-- and their number is below that of one byte more
pub unle_below : {k : ℕ} (s : List ℕ) → length s ≡ k → AllBytes s → unle s < 256 ^ k
unfolding unle
unle_below s e b = subst (λ (k : ℕ). unle s < 256 ^ k) e (number_below 256 (zero-lt-suc 255) s b)

pub bytes_take : (k : ℕ) (s : List ℕ) → AllBytes s → AllBytes (take k s)
bytes_take k s b = All-take (λ x. x < 256) k s b

pub bytes_drop : (k : ℕ) (s : List ℕ) → AllBytes s → AllBytes (drop k s)
bytes_drop k s b = All-drop (λ x. x < 256) k s b
