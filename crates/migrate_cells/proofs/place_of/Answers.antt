-- `place_of` meets its contract: the sides before k are done, and what is left counts in the others (proofs/Places).
-- Assumes nothing.
use native.Mathlib.Omega.{arith}
use Rattle.array.specs.Limits.{most_cells}
use Rattle.subset.proofs.Index.{few_shape}
use Rattle.migrate_cells.proofs.Places.{finding_before, finding_beyond, finding_fits, finding_more}
use Rattle.migrate_cells.proofs.place_of.Goals as goal

pub volume_of-inner-requires : goal.volume_of-inner-requires
volume_of-inner-requires c = let s = c.args.subset.asked.shaped in few_shape _ s.sides s.few_cells

pub returns-then-row-start : goal.returns-then-row-start
returns-then-row-start c = let s = c.args.subset.asked in finding_before s.shaped s.within c.loop-k.invariant (omega arith) c.if-row-start.true

pub returns-then-len-row : goal.returns-then-len-row
returns-then-len-row c =
    let s = c.args.subset.asked in
    finding_beyond s.shaped s.within c.loop-k.invariant (omega arith) c.if-row-start.false c.if-len-row.true

pub overflow_mul-place : goal.overflow_mul-place
unfolding most_cells
overflow_mul-place c =
    let s = c.args.subset.asked in
    omega (arith, finding_fits s.shaped s.within c.loop-k.invariant (omega arith) c.if-row-start.false c.if-len-row.false, s.shaped.few_cells)

pub overflow_add-place : goal.overflow_add-place
unfolding most_cells
overflow_add-place c =
    let s = c.args.subset.asked in
    omega (arith, finding_fits s.shaped s.within c.loop-k.invariant (omega arith) c.if-row-start.false c.if-len-row.false, s.shaped.few_cells)

pub loop-k-preserved : goal.loop-k-preserved
loop-k-preserved c =
    let s = c.args.subset.asked in
    finding_more s.shaped s.within c.loop-k.invariant (omega arith) c.if-row-start.false c.if-len-row.false
