-- `count_bytes` meets its contract: chunk by chunk (proofs/Passing).
-- Assumes nothing.
use mathlib.Core.Path.{◌≡◌, refl, sym, ap, ◌∙◌}
use Prim.Native.Nat.{ℕ, ◌+◌}
use native.Mathlib.Omega.{arith}
use mathlib.Core.List.{List, []}
use lib.ListN.{length}
use Rattle.array.specs.Limits.{most_bytes}
use Rattle.array.specs.Answer.{gives}
use Rattle.array.specs.Lists.{joined}
use Rattle.array.specs.Subset.{pairs, subsets_of, cells_in, cells_of_all}
use Rattle.decode_interleaved.specs.Walk.{total_of}
use Rattle.subset.proofs.Steps.{PartStep, part_step, parts_end}
use Rattle.subset.specs.Cells.{cells_of, subsets_in}
use Rattle.migrate_check.specs.Chunks.{stored_of, chunks_in}
use Rattle.migrate_extract.specs.Asked.{places_asked, values_asked}
use Rattle.migrate_extract.specs.Chunks.{ChunkRead, place_for, chunk_given, all_given, all_asked}
use Rattle.migrate_extract.proofs.Walking.{read_small}
use Rattle.migrate_extract.proofs.Passing.{passing_begins, passing_ends, passing_read, passing_whole, passing_more, opened}
use Rattle.migrate_extract.proofs.Effects.{Any, each_any, count_left, count_many, few_enough, too_many, asked_total}
use Rattle.migrate_extract.proofs.walk.count_bytes.Goals.{In-Some, After-split_first, After-count_bytes-sum}
use Rattle.migrate_extract.proofs.walk.count_bytes.Goals as goal

turn : (c : In-Some) → PartStep c.args.subsets.shape.now c.loop-part.part-iterator c.in-Some.part c.next.new.self
turn c = part_step c.args.subsets.shape.now c.loop-part.part-iterator c.loop-part.invariant.1 c.in-Some.part c.next.new.self c.in-Some.ensures.steps

-- the chunk of this turn, its cells, and its values
read : (c : After-split_first) → PartStep c.args.subsets.shape.now c.loop-part.part-iterator c.in-Some.part c.next.new.self
    → ChunkRead c.args.asked c.in-Some.part (stored_of c.split_first.result.0)
read c t = record { shape = c.requires.shape ∙ sym t.of; read = passing_read c.loop-part.invariant.0 t.next t.asked c.split_first.ensures.first }

pub loop-part-init : goal.loop-part-init
loop-part-init c =
    rw (c.into_iter-part-iterator.ensures.into_iter_gives, c.parts-part-items.ensures) (
      passing_begins count_left Any (cells_of c.args.asked) c.args.subsets.shape.now (subsets_in c.args.subsets) (chunks_in c.args.stored) 0 (all_given c.args.subsets (chunks_in c.args.stored))
          c.requires.read (each_any _ _),
      refl,
      c.requires.counted,
      omega arith,
    )

pub count_bytes-sum-requires : goal.count_bytes-sum-requires
count_bytes-sum-requires c = let a = goal.at.count_bytes-sum-requires c in read a.After-split_first (turn a.In-Some)

-- the chunk's bytes, by the cells of the list
counted : (c : After-count_bytes-sum) → PartStep c.args.subsets.shape.now c.loop-part.part-iterator c.in-Some.part c.next.new.self
    → let js = cells_in c.args.subsets.shape.now (pairs c.in-Some.part.starts.now c.in-Some.part.lens.now) in
    c.count_bytes-sum.result ≡ total_of (values_asked (place_for c.args.asked) js (chunk_given (stored_of c.split_first.result.0) c.in-Some.part.count))
counted c t =
    c.count_bytes-sum.ensures
    ∙ ap (λ (ks : List ℕ). total_of (values_asked (place_for c.args.asked) ks (chunk_given (stored_of c.split_first.result.0) c.in-Some.part.count))) t.cells

pub overflow_add-sum : goal.overflow_add-sum
unfolding most_bytes
overflow_add-sum c =
    let a = goal.at.overflow_add-sum c in
    let t = turn a.In-Some in
    let us = chunk_given (stored_of c.split_first.result.0) c.in-Some.part.count in
    omega (
      arith,
      c.loop-part.invariant.3,
      c.count_bytes-sum.ensures,
      asked_total (place_for c.args.asked) (cells_of c.in-Some.part) us,
      read_small (stored_of c.split_first.result.0) c.in-Some.part.count (read a.After-split_first t).read,
    )

pub returns-then-sum-gt-MOST_BYTES : goal.returns-then-sum-gt-MOST_BYTES
unfolding most_bytes
returns-then-sum-gt-MOST_BYTES c =
    let a = goal.at.returns-then-sum-gt-MOST_BYTES c in
    let t = turn a.In-Some in
    let w = c.loop-part.invariant.0 in
    let f = place_for c.args.asked in
    let js = cells_in c.args.subsets.shape.now (pairs c.in-Some.part.starts.now c.in-Some.part.lens.now) in
    let us = chunk_given (stored_of c.split_first.result.0) c.in-Some.part.count in
    let later = values_asked f (cells_of_all c.args.subsets.shape.now (subsets_of (length c.args.subsets.shape.now) c.next.new.self.left.numbers.now))
    (joined (opened w t.next t.asked c.split_first.ensures.first).1.1.0) in
    too_many _ (omega (
      arith,
      c.if-sum-gt-MOST_BYTES.true,
      counted a.After-count_bytes-sum t,
      count_many c.loop-part.sum (places_asked f js) (values_asked f js us) [] later,
      passing_whole w t.next t.asked c.split_first.ensures.first,
    ))

pub loop-part-preserved : goal.loop-part-preserved
unfolding most_bytes
loop-part-preserved c =
    let a = goal.at.loop-part-preserved c in
    let t = turn a.In-Some in
    let f = place_for c.args.asked in
    let js = cells_in c.args.subsets.shape.now (pairs c.in-Some.part.starts.now c.in-Some.part.lens.now) in
    let us = chunk_given (stored_of c.split_first.result.0) c.in-Some.part.count in (
      passing_more c.loop-part.invariant.0 t.next t.asked c.split_first.ensures.first (c.loop-part.sum + c.count_bytes-sum.result)
          (λ ps vs. ap (λ (k : ℕ). count_left (c.loop-part.sum + k) ps vs) (counted a.After-count_bytes-sum t) ∙ count_many c.loop-part.sum (places_asked f js) (values_asked f js us) ps vs),
      t.same,
      omega (arith, c.loop-part.invariant.2, ap length t.next, c.split_first.ensures.counted),
      c.if-sum-gt-MOST_BYTES.false,
    )

pub returns : goal.returns
returns c =
    let e = passing_ends c.loop-part.invariant.0 (parts_end c.args.subsets.shape.now c.loop-part.part-iterator c.loop-part.invariant.1 c.in-None.ensures.steps) in
    let total = total_of (all_asked c.args.asked c.args.subsets (chunks_in c.args.stored)) in
    let same : c.loop-part.sum ≡ total = omega (arith, e) in
    ap gives same ∙ few_enough total (omega (arith, same, c.loop-part.invariant.3))
