-- docs/SPEC.md, S1.4, S2.3, S3.7: lists numbered, laid end to end and counted, what the other definitions are made of.
-- Assumes nothing.
use Rattle.std.specs.Prelude.{ℕ, zero, suc, Bool, true, false, ◌&&◌, List, [], ◌∷◌, ◌++◌, take, drop, eqb}

abbrev pub pick : {A : Type 0} → Bool → A → A → A
pick true a b = a
pick false a b = b

-- the numbers from a on, n of them
abbrev pub from : ℕ → ℕ → List ℕ
from a zero = []
from a (suc n) = a ∷ from (suc a) n

-- the lists laid end to end
abbrev pub joined : {A : Type 0} → List (List A) → List A
joined [] = []
joined (v ∷ vs) = v ++ joined vs

-- n pieces of k elements
abbrev pub pieces : {A : Type 0} → ℕ → ℕ → List A → List (List A)
pieces k zero s = []
pieces k (suc n) s = take k s ∷ pieces k n (drop k s)

-- a rule for every element, and a test of every element
abbrev pub All : {A : Type 0} → (A → Type 0) → List A → Type 0
All P [] = Unit {0}
All P (x ∷ xs) = P x × All P xs

abbrev pub every : {A : Type 0} → (A → Bool) → List A → Bool
every f [] = true
every f (x ∷ xs) = f x && every f xs

-- the elements that pass a test, in their order, and how many they are
abbrev pub passing : {A : Type 0} → (A → Bool) → List A → List A
passing f [] = []
passing f (x ∷ xs) = pick (f x) (x ∷ passing f xs) (passing f xs)

abbrev pub count_passing : {A : Type 0} → (A → Bool) → List A → ℕ
count_passing f [] = zero
count_passing f (x ∷ xs) = pick (f x) (suc (count_passing f xs)) (count_passing f xs)

-- how often a number stands in the list
abbrev pub count : ℕ → List ℕ → ℕ
count i [] = zero
count i (j ∷ js) = pick (eqb i j) (suc (count i js)) (count i js)
