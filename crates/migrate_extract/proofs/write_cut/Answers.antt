-- `write_cut` meets its contract: lengths, offsets, bytes (proofs/Writing).
-- Assumes nothing.
use native.Mathlib.Omega.{arith}
use Rattle.subset.proofs.Rows.{asked_few}
use Rattle.migrate_check.specs.Chunks.{chunks_in}
use Rattle.migrate_extract.specs.Chunks.{all_places, all_asked}
use Rattle.migrate_extract.proofs.Writing.{values_short, offsets_short, summing, placing, cut_written}
use Rattle.migrate_extract.proofs.write_cut.Goals as goal

pub returns-then-values-sum : goal.returns-then-values-sum
returns-then-values-sum c =
    let a = c.args in
    let r = c.requires in
    values_short a.asked.count (all_places a.asked a.subsets) (all_asked a.asked a.subsets (chunks_in a.stored)) r.below r.once r.as_many a.values.now a.offsets.now (omega (arith, r.total))

pub overflow_add-count : goal.overflow_add-count
overflow_add-count c = omega (arith, asked_few c.args.asked.asked)

pub returns-then-offsets-count : goal.returns-then-offsets-count
returns-then-offsets-count c =
    let a = c.args in
    let r = c.requires in
    offsets_short a.asked.count (all_places a.asked a.subsets) (all_asked a.asked a.subsets (chunks_in a.stored)) r.below r.once r.as_many a.values.now a.offsets.now
    (omega (arith, r.total)) c.if-offsets-count.true

pub sum_up-requires : goal.sum_up-requires
sum_up-requires c =
    let a = c.args in
    let r = c.requires in (
      omega (arith, c.store_lengths.auto.offsets),
      summing a.asked.count (all_places a.asked a.subsets) (all_asked a.asked a.subsets (chunks_in a.stored)) r.below r.once r.as_many a.values.now a.offsets.now (omega arith)
          (omega (arith, r.total)) c.store_lengths.ensures (omega (arith, r.total, r.small)),
    )

pub store_bytes-requires-clause-placed : goal.store_bytes-requires-clause-placed
store_bytes-requires-clause-placed c =
    let a = c.args in
    let r = c.requires in
    placing a.asked.count (all_places a.asked a.subsets) (all_asked a.asked a.subsets (chunks_in a.stored)) r.below r.once r.as_many a.values.now a.offsets.now (omega arith)
    (omega (arith, r.total)) c.store_lengths.ensures c.sum_up.ensures

pub returns : goal.returns
returns c =
    let a = c.args in
    let r = c.requires in
    cut_written a.asked.count (all_places a.asked a.subsets) (all_asked a.asked a.subsets (chunks_in a.stored)) r.below r.once r.as_many a.values.now a.offsets.now (omega arith)
    (omega (arith, r.total)) c.store_lengths.ensures c.sum_up.ensures c.store_bytes.ensures r.total
