-- `copy_masks` meets its contract: the planes of the levels before `level` lie in place (proofs/Walk).
-- Assumes nothing.
use Prim.Native.Nat.{◌<◌}
use native.Mathlib.Omega.{arith}
use Rattle.array.specs.Lists.{All}
use Rattle.subset.specs.Cells.{cells_of}
use Rattle.subset.proofs.Rows.{asked_below, asked_count}
use Rattle.extract.proofs.Walk.{planes_begin, planes_end, planes_more}
use Rattle.extract.proofs.cells.copy_masks.Goals.{Start}
use Rattle.extract.proofs.cells.copy_masks.Goals as goal

below : (c : Start) → All (λ j. j < c.args.cells) (cells_of c.args.subset)
below c = rw c.requires.whole (asked_below c.args.subset.asked)

pub loop-level-init : goal.loop-level-init
loop-level-init c =
    let a = c.args in
    planes_begin a.cells a.src.now (cells_of a.subset) (below (goal.at.loop-level-init c).Start) (asked_count a.subset.asked) a.depth a.out.now c.requires.source c.requires.room

pub loop-level-preserved : goal.loop-level-preserved
loop-level-preserved c =
    let a = c.args in
    planes_more a.cells a.src.now (cells_of a.subset) (below (goal.at.loop-level-preserved c).Start) (asked_count a.subset.asked) c.requires.source
    c.loop-level.invariant (omega arith) c.copy_cells.ensures

pub returns : goal.returns
returns c =
    let a = c.args in
    planes_end a.cells a.src.now (cells_of a.subset) (below (goal.at.returns c).Start) (asked_count a.subset.asked) c.requires.source c.loop-level.invariant (omega arith)
