-- `asked_place` meets its contract: the cell is one of the shape.
-- Assumes nothing.
use native.Mathlib.Omega.{arith}
use Prim.Native.Nat.{ℕ, ◌<◌}
use Rattle.array.specs.Shape.{volume}
use Rattle.array.proofs.Lists.{All-at}
use Rattle.subset.specs.Cells.{cells_of}
use Rattle.subset.proofs.Rows.{asked_below, asked_count}
use Rattle.migrate_cells.proofs.asked_place.Goals as goal

pub place_of-requires : goal.place_of-requires
place_of-requires c =
    let p = c.args.part in
    rw (c.requires.shape, c.cell_at-cell.ensures)
    (All-at (λ (j : ℕ). j < volume p.shape.now) 0 (cells_of p) (asked_below p.asked) c.args.i (omega (arith, asked_count p.asked)))
