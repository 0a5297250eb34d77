-- `live_cells::Level::count_block` meets its contract: what is counted and what is live from i on make what is live from the start on, and no more is counted than passed.
-- Assumes nothing.
use Prim.Native.Nat.{◌≤◌}
use native.Mathlib.Omega.{arith}
use Rattle.live_cells.proofs.LiveMarks.{mark_le, live_next}
use Rattle.live_cells.proofs.Level.count_block.Goals as goal

pub loop-i-preserved : goal.loop-i-preserved
loop-i-preserved c =
    let l = c.args.self in
    let few : c.mark-n.result ≤ 1 = mark_le l.cells l.masks.now c.loop-i.i l.depth c.mark-n.ensures in
    omega (arith, few, c.mark-n.ensures, live_next l.cells l.masks.now l.depth c.loop-i.i (omega arith))
