-- `live_cells::Level::mark` meets its contract: a level more is a factor more.
-- Assumes nothing.
use mathlib.Core.Path.{◌≡◌, refl}
use native.Mathlib.Omega.{arith}
use Rattle.live_cells.proofs.LiveMarks.{mark_one, mark_more}
use Rattle.live_cells.proofs.Level.mark.Goals as goal

pub returns-in_default : goal.returns-in_default
returns-in_default c =
    let n = c.args.self.cells in
    let masks = c.args.self.masks.now in
    let i = c.args.i in
    let four : c.args.self.depth ≡ 4 = omega (arith, c.args.self.shallow) in
    let two = mark_more n masks i 1 (mark_one n masks i c.mark_at-in_default.ensures refl) c.mark_at-in_default-2.ensures refl in
    let three = mark_more n masks i 2 two c.mark_at-in_default-3.ensures refl in
    mark_more n masks i 3 three c.mark_at-in_default-4.ensures four
