-- `store_parts` meets its contract: the parts of the chunks before those that are left are stored (proofs/PartsStored).
-- Assumes nothing.
use Prim.Native.Nat.{◌+◌, ◌*◌, ◌≤◌}
use native.Mathlib.Omega.{arith}
use lib.ListN.{length}
use Rattle.subset.proofs.Steps.{PartStep, part_step}
use Rattle.merge_stores.proofs.PartsStored.{all_room, part_room, all_asked, all_more}
use Rattle.merge_stores.proofs.cells.store_parts.Goals.{In-Some}
use Rattle.merge_stores.proofs.cells.store_parts.Goals as goal

turn : (c : In-Some) → PartStep c.args.subsets.shape.now c.loop-part.part-iterator c.in-Some.part c.next.new.self
turn c = part_step c.args.subsets.shape.now c.loop-part.part-iterator c.loop-part.invariant.1 c.in-Some.part c.next.new.self c.in-Some.ensures.steps

-- the chunk's part lies in what is left, and so do the chunk's other bytes
room : (c : In-Some) → let a = c.args in let m = c.in-Some.part.count in
    (c.loop-part.pos + m * a.lead + m * a.size ≤ length a.src.now) × (c.loop-part.pos + m * a.step ≤ length a.src.now)
room c =
    let t = turn c in
    (part_room c.requires c.loop-part.invariant.0 t.next t.asked, omega (arith, all_room c.requires c.loop-part.invariant.0 t.next t.asked))

pub overflow_mul-m : goal.overflow_mul-m
overflow_mul-m c = omega (arith, room (goal.at.overflow_mul-m c).In-Some)

pub overflow_add-pos : goal.overflow_add-pos
overflow_add-pos c = omega (arith, room (goal.at.overflow_add-pos c).In-Some)

pub overflow_mul-pos : goal.overflow_mul-pos
overflow_mul-pos c = omega (arith, room (goal.at.overflow_mul-pos c).In-Some)

pub overflow_add-pos-in-loop-part : goal.overflow_add-pos-in-loop-part
overflow_add-pos-in-loop-part c = omega (arith, room (goal.at.overflow_add-pos-in-loop-part c).In-Some)

pub store_subset-requires : goal.store_subset-requires
store_subset-requires c =
    let t = turn (goal.at.store_subset-requires c).In-Some in
    rw t.of (all_asked c.requires c.loop-part.invariant.0 t.next t.asked)

pub loop-part-preserved : goal.loop-part-preserved
loop-part-preserved c =
    let t = turn (goal.at.loop-part-preserved c).In-Some in
    (all_more c.requires c.loop-part.invariant.0 t.next t.asked (rw t.of at c.store_subset.ensures), t.same)
