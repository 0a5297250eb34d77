-- `interleaved::vlen_v2::decode_interleaved` meets its contract, by the laws of Outcomes.
-- Assumes nothing.
use Rattle.array.specs.Limits.{most_cells}
use Rattle.decode_interleaved.proofs.Outcomes.{cells_read}
use Rattle.decode_interleaved.proofs.vlen_v2.decode_interleaved.Goals as goal

pub write_cells-requires : goal.write_cells-requires
unfolding most_cells
write_cells-requires c = (cells_read _ _ _ c.if-cells-gt-MOST_CELLS.false c.in_ok-sum.ensures).0
