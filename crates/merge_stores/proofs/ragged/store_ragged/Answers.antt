-- `store_ragged` meets its contract: the rows before the iterator's place are stored (proofs/RaggedRows over proofs/RowsStored).
-- Assumes nothing.
use native.Mathlib.Omega.{arith}
use Rattle.subset.proofs.Steps.{RowStep, row_step}
use Rattle.merge_stores.proofs.RaggedRows.{row_rises, row_room, row_enough, ragged_more}
use Rattle.merge_stores.proofs.ragged.store_ragged.Goals.{In-Some}
use Rattle.merge_stores.proofs.ragged.store_ragged.Goals as goal

turn : (c : In-Some) → RowStep c.args.subset c.loop-row.row-iterator c.in-Some.row c.next.new.self
turn c = row_step c.args.subset c.loop-row.row-iterator c.loop-row.invariant.1 c.in-Some.row c.next.new.self c.in-Some.ensures.steps

pub overflow_add-base : goal.overflow_add-base
overflow_add-base c =
    let t = turn (goal.at.overflow_add-base c).In-Some in
    rw t.here (omega (arith, row_enough c.requires c.loop-row.invariant.0 t.row))

pub overflow_sub-end : goal.overflow_sub-end
overflow_sub-end c =
    let t = turn (goal.at.overflow_sub-end c).In-Some in
    rw t.here (row_rises c.requires c.loop-row.invariant.0 t.row)

pub copy_bytes-requires : goal.copy_bytes-requires
copy_bytes-requires c =
    let t = turn (goal.at.copy_bytes-requires c).In-Some in
    let i = c.loop-row.invariant.0 in
    rw t.here (omega (arith, i.long, row_room c.requires i t.row), row_enough c.requires i t.row)

pub loop-row-preserved : goal.loop-row-preserved
loop-row-preserved c =
    let t = turn (goal.at.loop-row-preserved c).In-Some in
    (rw t.on (ragged_more c.requires c.loop-row.invariant.0 t.row (rw t.here at c.copy_bytes.ensures)), t.same)
