-- Set mask bytes, counted from the left.
-- Assumes nothing.
use mathlib.Core.Path.{◌≡◌, refl, sym, ap, ap₂, ◌∙◌}
use Prim.Native.Nat.{ℕ, zero, suc, ◌+◌, ◌<◌, ◌≤◌}
use native.Mathlib.Omega.{arith}
use native.Mathlib.Numerals.{add-one}
use mathlib.Core.List.{List, [], ◌∷◌, ◌++◌}
use lib.ListN.{length, get_or, take, drop, replicate, take-append-drop, drop_of_length-le}
use lib.Seq.{drop-cons, drop-drop}
use Rattle.array.specs.Cells.{Mark, mark_of}
use Rattle.codec.specs.Frame.{count_by, count_set}

pub count_one : (b : ℕ) → count_set (b ∷ []) ≤ 1
count_one zero = omega arith
count_one (suc zero) = omega arith
count_one (suc (suc b)) = omega arith

pub count-cons : (b : ℕ) (s : List ℕ) → count_set (b ∷ s) ≡ count_set (b ∷ []) + count_set s
count-cons zero s = omega arith
count-cons (suc zero) s = omega arith
count-cons (suc (suc b)) s = omega arith

pub count-append : (s t : List ℕ) → count_set (s ++ t) ≡ count_set s + count_set t
count-append [] t = omega arith
count-append (b ∷ s) t = omega (arith, count-cons b (s ++ t), count-cons b s, count-append s t)

pub count-le : (s : List ℕ) → count_set s ≤ length s
count-le [] = omega arith
count-le (b ∷ s) = omega (arith, count-cons b s, count_one b, count-le s)

pub count_zeros : (n : ℕ) → count_set (replicate n 0) ≡ 0
count_zeros zero = refl
count_zeros (suc n) = count_zeros n

-- from the byte i on
module _ (s : List ℕ) (i : ℕ) where
  pub count_next : i < length s → count_set (drop i s) ≡ count_set (get_or s i 0 ∷ []) + count_set (drop (i + 1) s)
  count_next h = ap count_set (drop-cons s i 0 h) ∙ count-cons (get_or s i 0) (drop (suc i) s) ∙ ap (λ (k : ℕ). count_set (get_or s i 0 ∷ []) + count_set (drop k s)) (sym (add-one i))

  -- by what the byte says
  pub count_mark : i < length s → {m : Mark} → mark_of (get_or s i 0) ≡ m → count_set (drop i s) ≡ count_by m (count_set (drop (i + 1) s))
  count_mark h e = ap count_set (drop-cons s i 0 h) ∙ ap₂ (λ (m : Mark) (k : ℕ). count_by m (count_set (drop k s))) e (sym (add-one i))

  pub count_end : length s ≤ i → count_set (drop i s) ≡ 0
  count_end h = ap count_set (drop_of_length-le s h)

  -- a block of k bytes
  pub count_block : (k : ℕ) → count_set (drop i s) ≡ count_set (take k (drop i s)) + count_set (drop (i + k) s)
  count_block k =
      ap count_set (sym (take-append-drop k (drop i s))) ∙ count-append (take k (drop i s)) (drop k (drop i s))
      ∙ ap (λ (l : List ℕ). count_set (take k (drop i s)) + count_set l) (drop-drop k i s)
