-- The mark of a byte over 01, and such bytes counted from the left.
-- Assumes nothing.
use mathlib.Core.Path.{◌≡◌, refl, sym, ap, ◌∙◌}
use Prim.Native.Nat.{ℕ, zero, suc, ◌+◌, ◌<◌, ◌≤◌}
use native.Mathlib.Omega.{arith}
use native.Mathlib.Numerals.{add-one}
use mathlib.Core.Bool.{true, false}
use mathlib.Core.List.{List, [], ◌∷◌, ◌++◌}
use lib.ListN.{length, get_or, drop, drop_of_length-le}
use lib.Seq.{drop-cons}
use Rattle.array.specs.Lists.{every}
use Rattle.array.specs.Cells.{is_other, mark_of, strict_test}
use Rattle.array.specs.Others.{other_by, others}

pub byte_other : (b : ℕ) → (b ≡ 0 → ⊥) → (b ≡ 1 → ⊥) → is_other ≡ mark_of b
byte_other zero f g = absurd (f refl)
byte_other (suc zero) f g = absurd (g refl)
byte_other (suc (suc b)) f g = refl

-- ---- bytes over 01

pub other_one : (b : ℕ) → other_by (mark_of b) ≤ 1
other_one zero = omega arith
other_one (suc zero) = omega arith
other_one (suc (suc b)) = omega arith

pub no_others : (s : List ℕ) → others s ≡ 0 → every strict_test s ≡ true
no_others [] e = refl
no_others (zero ∷ s) e = no_others s (omega arith)
no_others (suc zero ∷ s) e = no_others s (omega arith)
no_others (suc (suc b) ∷ s) e = absurd (omega arith)

pub some_others : (s : List ℕ) → 0 < others s → every strict_test s ≡ false
some_others [] h = absurd (omega arith)
some_others (zero ∷ s) h = some_others s (omega arith)
some_others (suc zero ∷ s) h = some_others s (omega arith)
some_others (suc (suc b) ∷ s) h = refl

pub others-append : (s t : List ℕ) → others (s ++ t) ≡ others s + others t
others-append [] t = omega arith
others-append (b ∷ s) t = omega (arith, others-append s t)

-- from the byte i on
module _ (s : List ℕ) (i : ℕ) where
  pub others_next : i < length s → others (drop i s) ≡ other_by (mark_of (get_or s i 0)) + others (drop (i + 1) s)
  others_next h = ap others (drop-cons s i 0 h) ∙ ap (λ (k : ℕ). other_by (mark_of (get_or s i 0)) + others (drop k s)) (sym (add-one i))

  pub others_end : length s ≤ i → others (drop i s) ≡ 0
  others_end h = ap others (drop_of_length-le s h)
