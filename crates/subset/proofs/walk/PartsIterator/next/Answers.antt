-- `next` of the parts meets its contract: the first subset that is left is split off (proofs/Subsets).
-- Assumes nothing.
use mathlib.Core.Path.{refl}
use native.Mathlib.Omega.{arith}
use Rattle.subset.proofs.Subsets.{Split, split_first}
use Rattle.subset.proofs.walk.PartsIterator.next.Goals.{After-split_at-2}
use Rattle.subset.proofs.walk.PartsIterator.next.Goals as goal

split : (c : After-split_at-2) → let s = c.args.self.now.left in Split s.shape.now s.numbers.now c.split_at.result.0.now c.split_at-2.result.0.now c.split_at-2.result.1.now
split c =
    let s = c.args.self.now.left in
    split_first s.numbers.now s.each (omega arith) c.split_at.ensures.front c.split_at.ensures.back c.split_at-2.ensures.front c.split_at-2.ensures.back

pub invariant_of-self : goal.invariant_of-self
invariant_of-self c = record { each = (split (goal.at.invariant_of-self c).After-split_at-2).rest }

pub volume_of-cells-requires : goal.volume_of-cells-requires
volume_of-cells-requires c = (split (goal.at.volume_of-cells-requires c).After-split_at-2).few

pub invariant_of-result : goal.invariant_of-result
invariant_of-result c =
    let s = split (goal.at.invariant_of-result c).After-split_at-2 in
    record { asked = record { shaped = c.args.self.now.left.each.shaped; within = s.within; counted = c.volume_of-cells.ensures } }

pub returns-clause-steps : goal.returns-clause-steps
returns-clause-steps c = ((split (goal.at.returns-clause-steps c).After-split_at-2).next, refl, refl)
