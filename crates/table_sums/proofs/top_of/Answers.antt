-- `table_sums::top_of` meets its contract: the greatest end so far.
-- Assumes nothing.
use native.Mathlib.Omega.{arith}
use Rattle.array.specs.Places.{offset_at}
use Rattle.table.specs.Table.{most_store}
use Rattle.table_sums.proofs.Totals.{placed_here, top_more}
use Rattle.table_sums.proofs.top_of.Goals as goal

pub overflow_add-starts : goal.overflow_add-starts
unfolding most_store
overflow_add-starts c =
    let a = c.args in
    omega (arith, placed_here (offset_at a.starts.now) (offset_at a.lengths.now) c.requires.3 c.loop-j.j (omega arith), c.requires)

pub loop-j-preserved : goal.loop-j-preserved
loop-j-preserved c =
    let start = offset_at c.args.starts.now in
    let len = offset_at c.args.lengths.now in
    let p = placed_here start len c.requires.3 c.loop-j.j (omega arith) in
    (omega arith, omega (arith, c.max-top.ensures, c.loop-j.invariant.1, top_more start len c.loop-j.j p), omega (arith, c.max-top.ensures, p.0, c.loop-j.invariant.2))
