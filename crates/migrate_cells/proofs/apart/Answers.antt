-- `apart` meets its contract: no side before k is apart (proofs/Meeting).
-- Assumes nothing.
use mathlib.Core.Path.{ap}
use native.Mathlib.Omega.{arith}
use lib.ListN.{length}
use Rattle.array.specs.Limits.{most_cells}
use Rattle.migrate_cells.proofs.Meeting.{side_end, meeting_first}
use Rattle.migrate_cells.proofs.apart.Goals as goal

pub overflow_add-one : goal.overflow_add-one
unfolding most_cells
overflow_add-one c =
    let a = c.args.one.asked in
    let w = a.within in
    omega (
      arith,
      side_end c.args.one.shape.now c.args.one.starts.now c.args.one.lens.now c.loop-k.k a.shaped.sides w.inside w.as_many_starts w.as_many_lengths (omega (arith, w.as_many_starts)),
      a.shaped.few_cells,
    )

pub returns-then-one-k : goal.returns-then-one-k
returns-then-one-k c =
    let a = c.args.one.asked.within in
    let b = c.args.other.asked.within in
    let same = ap length c.requires in
    meeting_first c.loop-k.invariant (omega (arith, a.as_many_starts, a.as_many_lengths)) (omega (arith, a.as_many_starts, b.as_many_starts, same))
    (omega (arith, a.as_many_starts, b.as_many_lengths, same)) (omega arith) c.if-one-k.true

pub overflow_add-other : goal.overflow_add-other
unfolding most_cells
overflow_add-other c =
    let a = c.args.other.asked in
    let w = a.within in
    omega (
      arith,
      side_end c.args.other.shape.now c.args.other.starts.now c.args.other.lens.now c.loop-k.k a.shaped.sides w.inside w.as_many_starts w.as_many_lengths
          (omega (arith, c.args.one.asked.within.as_many_starts, ap length c.requires)),
      a.shaped.few_cells,
    )
