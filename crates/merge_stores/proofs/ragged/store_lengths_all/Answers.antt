-- `store_lengths_all` meets its contract: the lengths of the chunks before those that are left are stored (proofs/LengthsStored).
-- Assumes nothing.
use native.Mathlib.Omega.{arith}
use Rattle.subset.proofs.Steps.{PartStep, part_step}
use Rattle.merge_stores.proofs.LengthsStored.{lengths_indexed, lengths_asked, lengths_more}
use Rattle.merge_stores.proofs.ragged.store_lengths_all.Goals.{In-Some}
use Rattle.merge_stores.proofs.ragged.store_lengths_all.Goals as goal

turn : (c : In-Some) → PartStep c.args.subsets.shape.now c.loop-part.part-iterator c.in-Some.part c.next.new.self
turn c = part_step c.args.subsets.shape.now c.loop-part.part-iterator c.loop-part.invariant.1 c.in-Some.part c.next.new.self c.in-Some.ensures.steps

pub store_lengths-requires : goal.store_lengths-requires
store_lengths-requires c =
    let t = turn (goal.at.store_lengths-requires c).In-Some in
    rw t.of (lengths_asked c.requires c.loop-part.invariant.0 t.next t.asked)

pub overflow_add-first : goal.overflow_add-first
overflow_add-first c =
    let t = turn (goal.at.overflow_add-first c).In-Some in
    omega (arith, lengths_indexed c.requires c.loop-part.invariant.0 t.next t.asked)

pub overflow_add-first-in-loop-part : goal.overflow_add-first-in-loop-part
overflow_add-first-in-loop-part c =
    let t = turn (goal.at.overflow_add-first-in-loop-part c).In-Some in
    omega (arith, lengths_indexed c.requires c.loop-part.invariant.0 t.next t.asked)

pub loop-part-preserved : goal.loop-part-preserved
loop-part-preserved c =
    let t = turn (goal.at.loop-part-preserved c).In-Some in
    (lengths_more c.requires c.loop-part.invariant.0 t.next t.asked (rw t.of at c.store_lengths.ensures), t.same)
