-- `subset_cells` meets its contract: each refusal in its order, then the rows (proofs/StoringCells).
-- Assumes nothing.
use mathlib.Core.Path.{sym}
use Rattle.array.proofs.Rules.{numbers_ok}
use Rattle.valid.proofs.ShapeLaws.{counted}
use Rattle.subset.proofs.subset_cells.Goals as goal

pub new-subset-requires : goal.new-subset-requires
new-subset-requires c = ((counted _ _ c.in_ok-shape_cells.ensures).shaped, numbers_ok _ _ (sym c.if-not-subset_fits.ensures))
