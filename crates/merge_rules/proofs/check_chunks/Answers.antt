-- `check_chunks` meets its contract: what is left to check gives what the whole gives (proofs/ChunkWalk).
-- Assumes nothing.
use Prim.Native.Nat.{◌+◌, ◌*◌}
use native.Mathlib.Omega.{arith}
use lib.ListN.{length}
use Rattle.array.specs.Limits.{most_cells}
use Rattle.array.specs.Meaning.{kind_of, lent}
use Rattle.array.specs.Subset.{subsets_of}
use Rattle.valid.proofs.CheckLaws.{small_product}
use Rattle.subset.specs.Cells.{subsets_in}
use Rattle.subset.proofs.Rows.{asked_few}
use Rattle.subset.proofs.Steps.{PartStep, part_step}
use Rattle.merge_rules.proofs.ChunkWalk.{Walked, walked_bad, walked_more}
use Rattle.merge_rules.proofs.check_chunks.Goals.{In-Some, In-Some-check_chunk}
use Rattle.merge_rules.proofs.check_chunks.Goals as goal

turn : (c : In-Some) → PartStep c.args.subsets.shape.now c.loop-part.part-iterator c.in-Some.part c.next.new.self
turn c = part_step c.args.subsets.shape.now c.loop-part.part-iterator c.loop-part.invariant.1 c.in-Some.part c.next.new.self c.in-Some.ensures.steps

more : (c : In-Some-check_chunk) → let a = c.args in let l = c.loop-part in let t = c.in-Some-check_chunk.taken in
    Walked (kind_of a.kind) (subsets_in a.subsets) (lent a.array) (subsets_of (length a.subsets.shape.now) c.next.new.self.left.numbers.now)
    (l.p + a.kind.depth * c.in-Some.part.count) (l.v + t.bytes) (l.o + t.numbers)
more c =
    let t = turn (goal.at.overflow_mul-p c).In-Some in
    walked_more c.loop-part.invariant.0 t.next t.asked c.in-Some-check_chunk.ensures

pub check_chunk-requires : goal.check_chunk-requires
unfolding most_cells
check_chunk-requires c = asked_few c.in-Some.part.asked

pub returns-in_default : goal.returns-in_default
returns-in_default c =
    let t = turn (goal.at.returns-in_default c).In-Some in
    walked_bad c.loop-part.invariant.0 t.next t.asked c.in_default.ensures

pub overflow_mul-p : goal.overflow_mul-p
unfolding most_cells
overflow_mul-p c = omega (arith, small_product c.args.kind.depth c.in-Some.part.count (omega arith) (asked_few c.in-Some.part.asked))

pub overflow_add-p : goal.overflow_add-p
overflow_add-p c = omega (arith, (more (goal.at.overflow_add-p c).In-Some-check_chunk).masks)

pub overflow_add-v : goal.overflow_add-v
overflow_add-v c = omega (arith, (more (goal.at.overflow_add-v c).In-Some-check_chunk).values)

pub overflow_add-o : goal.overflow_add-o
overflow_add-o c = omega (arith, (more (goal.at.overflow_add-o c).In-Some-check_chunk).offsets)

pub loop-part-preserved : goal.loop-part-preserved
loop-part-preserved c = (more (goal.at.loop-part-preserved c).In-Some-check_chunk, (turn (goal.at.loop-part-preserved c).In-Some).same)
