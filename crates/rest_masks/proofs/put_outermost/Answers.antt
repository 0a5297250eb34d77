-- `put_outermost` meets its contract, by the laws of Topped.
-- Assumes nothing.
use mathlib.Core.Path.{ap, ◌∙◌, subst}
use mathlib.Core.List.{List}
use Prim.Native.Nat.{ℕ}
use Rattle.array.specs.Buffers.{over}
use Rattle.rest_masks.specs.Rested.{Covers}
use Rattle.rest_masks.proofs.Topped.{below_plane}
use Rattle.rest_masks.proofs.put_outermost.Goals as goal

pub returns-in-Some : goal.returns-in-Some
returns-in-Some c =
    let a = c.args in
    rw c.in-Some.is (c.put_kept.ensures
    ∙ ap (λ (g : List ℕ). over g a.out.now) (below_plane a.cells c.in-Some.plane a.masks.now (subst (Covers a.cells) c.in-Some.is c.requires.0)))
