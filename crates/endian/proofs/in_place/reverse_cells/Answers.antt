-- `endian::in_place::reverse_cells`: the first i cells are reversed, by the laws for any size (Copying).
-- Assumes nothing.
use mathlib.Core.Path.{refl}
use Prim.Native.Nat.{◌+◌, ◌*◌}
use Rattle.endian.proofs.Copying.{reversing_next}
use Rattle.endian.proofs.in_place.reverse_cells.Goals as goal

pub loop-i-preserved : goal.loop-i-preserved
loop-i-preserved c =
    reversing_next c.loop-i.invariant c.loop-i-test.true (c.args.at + c.loop-i.i * c.args.size) refl
    c.reverse_cell.ensures
