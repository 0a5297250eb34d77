-- Redundant by the law scatter-put_back in merge_stores/proofs/Scattering.antt: a merge (S3.8) by stores, each element at its place.
-- Assumes nothing.
use Rattle.std.specs.Prelude.{ℕ, List, [], ◌∷◌, map, set}
use Rattle.array.specs.Lists.{from, joined}
use Rattle.array.specs.Places.{step_at}

abbrev pub scatter : {A : Type 0} → List A → List ℕ → List A → List A
scatter acc [] xs = acc
scatter acc (j ∷ js) [] = acc
scatter acc (j ∷ js) (x ∷ xs) = scatter (set acc j x) js xs

-- the places of the cells' bytes, cell j lying from off j up to off (suc j)
abbrev pub places : (ℕ → ℕ) → List ℕ → List ℕ
places off js = joined (map (λ j. from (off j) (step_at off j)) js)
