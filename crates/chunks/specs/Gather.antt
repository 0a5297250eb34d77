-- docs/SPEC.md, S3.4, S3.7, S3.8: elements taken from their places, and put back, and places that stand exactly once.
-- Assumes nothing.
use Rattle.std.specs.Prelude.{ℕ, ◌<◌, ◌≡◌, Bool, List, [], ◌∷◌, map, get_or, eqb}
use Rattle.array.specs.Lists.{from, pick, every, count}

-- the elements at the places of the list
abbrev pub gather : {A : Type 0} → A → List A → List ℕ → List A
gather z xs is = map (λ i. get_or xs i z) is

-- the element that stands beside the place i
abbrev pub lookup : {A : Type 0} → A → ℕ → List ℕ → List A → A
lookup z i [] xs = z
lookup z i (j ∷ js) [] = z
lookup z i (j ∷ js) (x ∷ xs) = pick (eqb i j) x (lookup z i js xs)

-- each place below n with the element that stands beside it
abbrev pub put_back : {A : Type 0} → A → ℕ → List ℕ → List A → List A
put_back z n js xs = map (λ i. lookup z i js xs) (from 0 n)

-- each place below n stands in the list exactly once, and the test of it: refusal 12
abbrev pub Once : ℕ → List ℕ → Type 0
Once n js = (i : ℕ) → i < n → count i js ≡ 1

abbrev pub once_test : ℕ → List ℕ → Bool
once_test n js = every (λ i. eqb (count i js) 1) (from 0 n)
