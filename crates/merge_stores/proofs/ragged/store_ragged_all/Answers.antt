-- `store_ragged_all` meets its contract: the values of the chunks before those that are left are stored (proofs/RaggedStored).
-- Assumes nothing.
use Prim.Native.Nat.{◌+◌, ◌<◌}
use native.Mathlib.Omega.{arith}
use lib.ListN.{length}
use Rattle.subset.proofs.Steps.{PartStep, part_step}
use Rattle.merge_stores.proofs.RaggedStored.{chunk_indexed, chunk_enough, ragged_asked, raggeds_more}
use Rattle.merge_stores.proofs.ragged.store_ragged_all.Goals.{In-Some}
use Rattle.merge_stores.proofs.ragged.store_ragged_all.Goals as goal

turn : (c : In-Some) → PartStep c.args.subsets.shape.now c.loop-part.part-iterator c.in-Some.part c.next.new.self
turn c = part_step c.args.subsets.shape.now c.loop-part.part-iterator c.loop-part.invariant.1 c.in-Some.part c.next.new.self c.in-Some.ensures.steps

-- the chunk's offsets lie in what is left
indexed : (c : In-Some) → c.loop-part.first + c.in-Some.part.count < length c.args.src.now
indexed c = let t = turn c in chunk_indexed c.requires c.loop-part.invariant.0 t.next t.asked

pub overflow_add-last : goal.overflow_add-last
overflow_add-last c = omega (arith, indexed (goal.at.overflow_add-last c).In-Some)

pub offset_bounds-src-last : goal.offset_bounds-src-last
offset_bounds-src-last c = omega (arith, indexed (goal.at.offset_bounds-src-last c).In-Some)

pub bounds-src-last : goal.bounds-src-last
bounds-src-last c = omega (arith, indexed (goal.at.bounds-src-last c).In-Some)

pub overflow_add-base : goal.overflow_add-base
overflow_add-base c =
    let t = turn (goal.at.overflow_add-base c).In-Some in
    omega (arith, chunk_enough c.requires c.loop-part.invariant.0 t.next t.asked)

pub overflow_add-first : goal.overflow_add-first
overflow_add-first c = omega (arith, indexed (goal.at.overflow_add-first c).In-Some)

pub store_ragged-requires : goal.store_ragged-requires
store_ragged-requires c =
    let t = turn (goal.at.store_ragged-requires c).In-Some in
    rw t.of (ragged_asked c.requires c.loop-part.invariant.0 t.next t.asked)

pub loop-part-preserved : goal.loop-part-preserved
loop-part-preserved c =
    let t = turn (goal.at.loop-part-preserved c).In-Some in
    (raggeds_more c.requires c.loop-part.invariant.0 t.next t.asked (rw t.of at c.store_ragged.ensures), t.same)
