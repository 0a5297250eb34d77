-- `store_lengths` meets its contract: chunk by chunk (proofs/Passing).
-- Assumes nothing.
use mathlib.Core.Path.{◌≡◌, refl, sym, ap, ◌∙◌}
use Prim.Native.Nat.{ℕ}
use native.Mathlib.Omega.{arith}
use mathlib.Core.List.{List}
use lib.ListN.{length}
use Rattle.array.specs.Subset.{pairs, cells_in}
use Rattle.subset.proofs.Steps.{PartStep, part_step}
use Rattle.subset.specs.Cells.{cells_of, subsets_in}
use Rattle.migrate_check.specs.Chunks.{stored_of, chunks_in}
use Rattle.migrate_extract.specs.Asked.{places_asked, values_asked}
use Rattle.migrate_extract.specs.Chunks.{ChunkRead, place_for, chunk_given, all_given}
use Rattle.migrate_extract.proofs.Passing.{passing_begins, passing_read, passing_many, passing_more}
use Rattle.migrate_extract.proofs.Effects.{Any, each_any, lengths_left, lengths_many}
use Rattle.migrate_extract.proofs.walk.store_lengths.Goals.{In-Some, After-split_first}
use Rattle.migrate_extract.proofs.walk.store_lengths.Goals as goal

turn : (c : In-Some) → PartStep c.args.subsets.shape.now c.loop-part.part-iterator c.in-Some.part c.next.new.self
turn c = part_step c.args.subsets.shape.now c.loop-part.part-iterator c.loop-part.invariant.1 c.in-Some.part c.next.new.self c.in-Some.ensures.steps

-- the chunk of this turn, its cells, and its values
read : (c : After-split_first) → PartStep c.args.subsets.shape.now c.loop-part.part-iterator c.in-Some.part c.next.new.self
    → ChunkRead c.args.asked c.in-Some.part (stored_of c.split_first.result.0)
read c t = record { shape = c.requires.read.shape ∙ sym t.of; read = passing_read c.loop-part.invariant.0 t.next t.asked c.split_first.ensures.first }

pub loop-part-init : goal.loop-part-init
loop-part-init c =
    rw (c.into_iter-part-iterator.ensures.into_iter_gives, c.parts-part-items.ensures) (
      passing_begins lengths_left Any (cells_of c.args.asked) c.args.subsets.shape.now (subsets_in c.args.subsets) (chunks_in c.args.stored) c.args.offsets.now
          (all_given c.args.subsets (chunks_in c.args.stored))
          c.requires.read.read (each_any _ _),
      refl,
      c.requires.read.counted,
    )

pub store_lengths-requires-clause-read : goal.store_lengths-requires-clause-read
store_lengths-requires-clause-read c = let a = goal.at.store_lengths-requires-clause-read c in read a.After-split_first (turn a.In-Some)

pub loop-part-preserved : goal.loop-part-preserved
loop-part-preserved c =
    let t = turn (goal.at.loop-part-preserved c).In-Some in
    let w = c.loop-part.invariant.0 in
    let g = c.split_first.ensures.first in
    let f = place_for c.args.asked in
    let js = cells_in c.args.subsets.shape.now (pairs c.in-Some.part.starts.now c.in-Some.part.lens.now) in
    let us = chunk_given (stored_of c.split_first.result.0) c.in-Some.part.count in
    let stored : c.store_lengths.new.offsets ≡ lengths_left c.loop-part.offsets (places_asked f js) (values_asked f js us) =
    c.store_lengths.ensures ∙ ap (λ (ks : List ℕ). lengths_left c.loop-part.offsets (places_asked f ks) (values_asked f ks us)) t.cells in (
      passing_more w t.next t.asked g c.store_lengths.new.offsets
          (λ ps vs. ap (λ (o : List ℕ). lengths_left o ps vs) stored
          ∙ lengths_many c.loop-part.offsets (places_asked f js) (values_asked f js us) (passing_many w t.next t.asked g) ps vs),
      t.same,
      omega (arith, c.loop-part.invariant.2, ap length t.next, c.split_first.ensures.counted),
    )
