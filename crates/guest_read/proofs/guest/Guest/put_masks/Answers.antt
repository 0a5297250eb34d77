-- `guest::Guest::put_masks` meets its contract: what a plane covers is cleared.
-- Assumes nothing.
use mathlib.Core.Path.{ap, ◌∙◌}
use mathlib.Core.List.{List}
use Prim.Native.Nat.{ℕ}
use Rattle.array.specs.Buffers.{over}
use Rattle.rest_masks.specs.Rested.{rest_planes}
use Rattle.guest_read.proofs.Values.{covered_cleared}
use Rattle.guest_read.proofs.guest.Guest.put_masks.Goals as goal

pub returns : goal.returns
returns c =
    let g = c.args.self in
    c.put_planes.ensures ∙ ap (λ (ms : List ℕ). over (rest_planes g.level.cells ms g.level.depth) c.args.out.now) (covered_cleared g)
