-- `live_cells::Level::count` meets its contract: level 0 counts every cell, level 1 the set bytes of the first mask.
-- Assumes nothing.
use mathlib.Core.Path.{◌∙◌}
use Rattle.live_cells.proofs.LiveMarks.{count_all, count_one}
use Rattle.live_cells.proofs.Level.count.Goals as goal

pub returns-in-0 : goal.returns-in-0
returns-in-0 c = let l = c.args.self in count_all l.cells l.masks.now c.in-0.is

pub returns-in-1 : goal.returns-in-1
returns-in-1 c = let l = c.args.self in c.count_set.ensures ∙ count_one l.cells l.masks.now c.in-1.is l.planes
