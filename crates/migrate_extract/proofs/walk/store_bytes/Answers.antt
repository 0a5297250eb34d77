-- `store_bytes` meets its contract: chunk by chunk (proofs/Passing).
-- Assumes nothing.
use mathlib.Core.Path.{◌≡◌, sym, ap, ◌∙◌, subst}
use Prim.Native.Nat.{ℕ}
use native.Mathlib.Omega.{arith}
use mathlib.Core.List.{List}
use lib.ListN.{length}
use Rattle.array.specs.Subset.{pairs, cells_in}
use Rattle.subset.proofs.Steps.{PartStep, part_step}
use Rattle.migrate_check.specs.Chunks.{stored_of}
use Rattle.migrate_extract.specs.Asked.{Each, places_asked, values_asked}
use Rattle.migrate_extract.specs.Chunks.{ChunkRead, place_for, chunk_given, Placed}
use Rattle.migrate_extract.proofs.Passing.{passing_read, passing_many, passing_here, passing_more}
use Rattle.migrate_extract.proofs.Effects.{bytes_left, bytes_many}
use Rattle.migrate_extract.proofs.walk.store_bytes.Goals.{In-Some, After-split_first}
use Rattle.migrate_extract.proofs.walk.store_bytes.Goals as goal

turn : (c : In-Some) → PartStep c.args.subsets.shape.now c.loop-part.part-iterator c.in-Some.part c.next.new.self
turn c = part_step c.args.subsets.shape.now c.loop-part.part-iterator c.loop-part.invariant.1 c.in-Some.part c.next.new.self c.in-Some.ensures.steps

-- the chunk of this turn, its cells, and its values
read : (c : After-split_first) → PartStep c.args.subsets.shape.now c.loop-part.part-iterator c.in-Some.part c.next.new.self
    → ChunkRead c.args.asked c.in-Some.part (stored_of c.split_first.result.0)
read c t = record { shape = c.requires.read.shape ∙ sym t.of; read = passing_read c.loop-part.invariant.0 t.next t.asked c.split_first.ensures.first }

pub store_bytes-requires-clause-read : goal.store_bytes-requires-clause-read
store_bytes-requires-clause-read c = let a = goal.at.store_bytes-requires-clause-read c in read a.After-split_first (turn a.In-Some)

pub store_bytes-requires-clause-placed : goal.store_bytes-requires-clause-placed
store_bytes-requires-clause-placed c =
    let t = turn (goal.at.store_bytes-requires-clause-placed c).In-Some in
    let f = place_for c.args.asked in
    let us = chunk_given (stored_of c.split_first.result.0) c.in-Some.part.count in
    rw c.loop-part.auto.values
    (subst (λ (ks : List ℕ). Each (Placed c.args.begins.now (length c.args.values.now)) (places_asked f ks) (values_asked f ks us)) (sym t.cells)
    (passing_here c.loop-part.invariant.0 t.next t.asked c.split_first.ensures.first))

pub loop-part-preserved : goal.loop-part-preserved
loop-part-preserved c =
    let t = turn (goal.at.loop-part-preserved c).In-Some in
    let w = c.loop-part.invariant.0 in
    let g = c.split_first.ensures.first in
    let f = place_for c.args.asked in
    let b = c.args.begins.now in
    let js = cells_in c.args.subsets.shape.now (pairs c.in-Some.part.starts.now c.in-Some.part.lens.now) in
    let us = chunk_given (stored_of c.split_first.result.0) c.in-Some.part.count in
    let stored : c.store_bytes.new.values ≡ bytes_left b c.loop-part.values (places_asked f js) (values_asked f js us) =
    c.store_bytes.ensures ∙ ap (λ (ks : List ℕ). bytes_left b c.loop-part.values (places_asked f ks) (values_asked f ks us)) t.cells in (
      passing_more w t.next t.asked g c.store_bytes.new.values
          (λ ps vs. ap (λ (o : List ℕ). bytes_left b o ps vs) stored
          ∙ bytes_many b (length c.args.values.now) c.loop-part.values (places_asked f js) (values_asked f js us) (passing_many w t.next t.asked g) (passing_here w t.next t.asked g) ps vs),
      t.same,
      omega (arith, c.loop-part.invariant.2, ap length t.next, c.split_first.ensures.counted),
    )
