-- `has_cells` meets its contract: the lengths from the loop's on give what all give (proofs/Fitting).
-- Assumes nothing.
use mathlib.Core.Path.{◌≡◌}
use lib.ListN.{drop}
use lib.Dec.{leb}
use Rattle.array.specs.Lists.{every}
use Rattle.subset.proofs.has_cells.Given as goal

abbrev pub invariant-loop-len : goal.invariant-loop-len
invariant-loop-len l = every (leb 1) l.lens ≡ every (leb 1) (drop l.len-index l.lens)
