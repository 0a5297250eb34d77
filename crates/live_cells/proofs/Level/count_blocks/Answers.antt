-- `live_cells::Level::count_blocks` meets its contract: what is counted and what is live from the next block on make the whole count.
-- Assumes nothing.
use native.Mathlib.Omega.{arith}
use Rattle.live_cells.proofs.Runs.{live-le}
use Rattle.live_cells.proofs.Level.count_blocks.Goals as goal

pub overflow_add-n : goal.overflow_add-n
overflow_add-n c = let l = c.args.self in omega (arith, c.ranges.self, c.count_block.ensures, live-le l.cells l.masks.now l.depth)
