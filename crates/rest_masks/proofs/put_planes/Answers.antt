-- `put_planes` meets its contract, by the laws of Topped.
-- Assumes nothing.
use mathlib.Core.Path.{ap, ◌∙◌}
use mathlib.Core.List.{List}
use Prim.Native.Nat.{ℕ}
use lib.ListN.{take}
use Rattle.array.specs.Buffers.{over}
use Rattle.rest_masks.specs.Rested.{rest_planes, covered}
use Rattle.rest_masks.proofs.Topped.{one_level, covered_long, covered_whole, planes_laid}
use Rattle.rest_masks.proofs.put_planes.Goals as goal

pub returns : goal.returns
returns c =
    let l = c.args.level in
    let above = c.args.above in
    let some = c.if-level-eq0.false in
    planes_laid (take l.cells (covered l.cells above l.masks.now)) l.masks.now c.args.out.now some
    (covered_long l.cells above l.masks.now (one_level l.cells some l.planes)) c.requires.1 c.put_outermost.ensures c.put_levels.ensures
    ∙ ap (λ (ms : List ℕ). over (rest_planes l.cells ms l.depth) c.args.out.now) (covered_whole l.cells above l.masks.now)
