-- Redundant by the law cut_is in migrate_extract/proofs/Cut.antt: of cells and their values those that a cut asks for (S16.5).
-- f says where a cell stands in the cut, where it is asked for.
-- Assumes nothing.
use Rattle.std.specs.Prelude.{ℕ, ◌∷◌, List, [], Option, None, Some}
use Rattle.array.specs.Cells.{Value}

abbrev pub with_place : Option ℕ → List ℕ → List ℕ
with_place None ps = ps
with_place (Some p) ps = p ∷ ps

abbrev pub with_value : Option ℕ → Value → List Value → List Value
with_value None v vs = vs
with_value (Some p) v vs = v ∷ vs

-- the places of those cells js that are asked for, and their values
abbrev pub places_asked : (ℕ → Option ℕ) → List ℕ → List ℕ
places_asked f [] = []
places_asked f (j ∷ js) = with_place (f j) (places_asked f js)

abbrev pub values_asked : (ℕ → Option ℕ) → List ℕ → List Value → List Value
values_asked f [] vs = []
values_asked f (j ∷ js) [] = []
values_asked f (j ∷ js) (v ∷ vs) = with_value (f j) v (values_asked f js vs)

-- what holds of each place and the value beside it
abbrev pub Each : (ℕ → Value → Type 0) → List ℕ → List Value → Type 0
Each Q [] vs = Unit {0}
Each Q (p ∷ ps) [] = Unit {0}
Each Q (p ∷ ps) (v ∷ vs) = Q p v × Each Q ps vs
