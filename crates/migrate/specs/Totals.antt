-- Redundant by the law cut_total in migrate/proofs/Totals.antt: the bytes of a cut (S16.5), chunk by chunk, as a walk over the chunks counts them.
-- Assumes nothing.
use Rattle.std.specs.Prelude.{ℕ, ◌+◌, Bool, List, [], ◌∷◌, length}
use Rattle.array.specs.Lists.{pick}
use Rattle.array.specs.Subset.{subset_of, coordinates, inside_test}
use Rattle.array.specs.Cells.{Value}
use Rattle.migrate.specs.Live.{LiveTable}

-- whether a cell is asked for
abbrev pub asked_test : LiveTable → List ℕ → ℕ → Bool
asked_test t ns j = inside_test (subset_of (length t.shape) ns) (coordinates t.shape j)

-- the bytes of the cells js that are asked for, whose values are vs
abbrev pub bytes_asked : (ℕ → Bool) → List ℕ → List Value → ℕ
bytes_asked f [] vs = 0
bytes_asked f (j ∷ js) [] = 0
bytes_asked f (j ∷ js) (v ∷ vs) = pick (f j) (length v) 0 + bytes_asked f js vs
