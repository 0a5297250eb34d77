-- `volume_of` meets its contract: the product of the sides from k on (proofs/Index).
-- Assumes nothing.
use mathlib.Core.Path.{◌≡◌}
use lib.ListN.{drop}
use Rattle.array.specs.Shape.{volume}
use Rattle.subset.proofs.volume_of.Given as goal

abbrev pub invariant-loop-k : goal.invariant-loop-k
invariant-loop-k l = l.v ≡ volume (drop l.k l.sides)
