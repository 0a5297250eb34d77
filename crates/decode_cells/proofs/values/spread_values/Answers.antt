-- `spread_values` meets its contract: where all cells are set it is one copy (SpreadingValues); else by the size.
-- Assumes nothing.
use Rattle.std.proofs.Common.{refl, sym}
use Rattle.array.specs.Meaning.{order_of}
use Rattle.decode_words.proofs.SpreadingValues.{values_start, values_all}
use Rattle.decode_cells.proofs.values.spread_values.Goals as goal

pub returns-then-cells-plane : goal.returns-then-cells-plane
returns-then-cells-plane c = values_all (values_start c.requires (order_of c.args.order)) (sym c.if-cells-plane.true) refl c.copy_cells.ensures
