-- Strings that lie end to end: they depend on the bytes up to their end only, and one more goes behind them.
-- Assumes nothing.
use mathlib.Core.Path.{◌≡◌, refl, sym, ap, ap₂, ◌∙◌}
use Prim.Native.Nat.{ℕ, suc, ◌+◌, ◌≤◌}
use native.Mathlib.Omega.{arith}
use mathlib.Core.List.{List, [], ◌∷◌, ◌++◌, append_assoc}
use lib.ListN.{length, take, drop}
use lib.Seq.{take-take, take_at, drop_at, drop-drop, length-take-le}
use Rattle.std.proofs.lemmas.List.{drop-take}
use Rattle.array.specs.Places.{sum}
use Rattle.array.specs.Buffers.{over_at}
use Rattle.migrate.specs.Live.{strings}

pub length_strings : (ls s : List ℕ) → length (strings ls s) ≡ length ls
length_strings [] s = refl
length_strings (l ∷ ls) s = ap suc (length_strings ls (drop l s))

pub sum_more : (ls : List ℕ) (l : ℕ) → sum (ls ++ (l ∷ [])) ≡ sum ls + l
sum_more [] l = omega arith
sum_more (k ∷ ls) l = omega (arith, sum_more ls l)

-- the bytes up to the end decide
pub strings_same : (ls s t : List ℕ) → take (sum ls) s ≡ take (sum ls) t → strings ls s ≡ strings ls t
strings_same [] s t e = refl
strings_same (l ∷ ls) s t e =
    let n : ℕ = sum ls in
    ap₂ (λ (x : List ℕ) (r : List (List ℕ)). x ∷ r)
    (sym (take-take l (l + n) s (omega arith)) ∙ ap (take l) e ∙ take-take l (l + n) t (omega arith))
    (strings_same ls (drop l s) (drop l t) (sym (drop-take l n s) ∙ ap (drop l) e ∙ drop-take l n t))

strings_more : (ls : List ℕ) (l : ℕ) (s : List ℕ) → strings (ls ++ (l ∷ [])) s ≡ strings ls s ++ (take l (drop (sum ls) s) ∷ [])
strings_more [] l s = refl
strings_more (k ∷ ls) l s =
    ap (λ (r : List (List ℕ)). take k s ∷ r)
    (strings_more ls l (drop k s) ∙ ap (λ (t : List ℕ). strings ls (drop k s) ++ (take l t ∷ [])) (drop-drop (sum ls) k s))

-- a string laid behind them
module _ (ls s a : List ℕ) (h : sum ls ≤ length a) where
  abbrev rest : List ℕ
  rest = drop (length (take (sum ls) a ++ s)) a

  front : length (take (sum ls) a) ≡ sum ls
  front = length-take-le (sum ls) a h

  pub laid_front : take (sum ls) (over_at (sum ls) s a) ≡ take (sum ls) a
  laid_front = ap (take (sum ls)) (append_assoc (take (sum ls) a) s rest) ∙ take_at (take (sum ls) a) (s ++ rest) (sum ls) front

  laid_there : take (length s) (drop (sum ls) (over_at (sum ls) s a)) ≡ s
  laid_there =
      ap (λ (x : List ℕ). take (length s) (drop (sum ls) x)) (append_assoc (take (sum ls) a) s rest)
      ∙ ap (take (length s)) (drop_at (take (sum ls) a) (s ++ rest) (sum ls) front)
      ∙ take_at s rest (length s) refl

  pub laid_strings : strings (ls ++ (length s ∷ [])) (over_at (sum ls) s a) ≡ strings ls a ++ (s ∷ [])
  laid_strings =
      strings_more ls (length s) (over_at (sum ls) s a)
      ∙ ap₂ (λ (x : List (List ℕ)) (y : List ℕ). x ++ (y ∷ [])) (strings_same ls (over_at (sum ls) s a) a laid_front) laid_there
