-- `copy_rows` meets its contract: the values of the rows before the iterator's place, and where they end, lie in place (proofs/Ragged).
-- Assumes nothing.
use Prim.Native.Nat.{◌+◌}
use native.Mathlib.Omega.{arith}
use lib.ListN.{drop}
use Rattle.array.specs.Limits.{most_cells}
use Rattle.subset.proofs.Rows.{asked_left}
use Rattle.subset.proofs.Steps.{RowStep, row_step, rows_end}
use Rattle.cut_ragged.specs.Source.{begins_in}
use Rattle.cut_ragged.proofs.Offsets.{offset_there}
use Rattle.cut_ragged.proofs.Ragged.{ragged_begins, ragged_same, ragged_values, ragged_offsets, ragged_total, NextRow, next_row, next_copied}
use Rattle.cut_ragged.proofs.copy_rows.Goals.{In-Some}
use Rattle.cut_ragged.proofs.copy_rows.Goals as goal

turn : (c : In-Some) → RowStep c.args.subset c.loop-row.row-iterator c.in-Some.row c.next.new.self
turn c = row_step c.args.subset c.loop-row.row-iterator c.loop-row.invariant.1 c.in-Some.row c.next.new.self c.in-Some.ensures.steps

next : (c : In-Some) → let v = c.args.src in let l = c.loop-row in
    NextRow (begins_in v) v.bytes.now v.base l.values l.offsets l.row-iterator.at l.total c.in-Some.row.first c.in-Some.row.cells
next c =
    let v = c.args.src in
    next_row v.bytes.now v.base c.loop-row.invariant.0 (turn c).row c.requires.asked.rises c.requires.asked.data_room

pub loop-row-init : goal.loop-row-init
loop-row-init c =
    let r = c.rows-row-items.ensures in
    let v = c.args.src in
    rw (c.into_iter-row-iterator.ensures.into_iter_gives, r.begin)
    (ragged_begins (begins_in v) (drop v.base v.bytes.now) c.args.values.now c.args.offsets.now (asked_left c.args.subset.asked) c.requires.room c.requires.room_offsets, r.of)

pub overflow_sub-size : goal.overflow_sub-size
overflow_sub-size c =
    let x = next (goal.at.overflow_sub-size c).In-Some in
    omega (arith, x.rises, c.offset_at-end.ensures, c.offset_at-begin.ensures)

pub overflow_add-src : goal.overflow_add-src
overflow_add-src c =
    let x = next (goal.at.overflow_add-src c).In-Some in
    omega (arith, x.rises, x.data_room, c.offset_at-begin.ensures)

pub copy_bytes-requires : goal.copy_bytes-requires
copy_bytes-requires c =
    let x = next (goal.at.copy_bytes-requires c).In-Some in (
      omega (arith, x.room, c.offset_at-end.ensures, c.offset_at-begin.ensures),
      omega (arith, x.rises, x.data_room, c.offset_at-end.ensures, c.offset_at-begin.ensures),
    )

pub store_ends-requires : goal.store_ends-requires
unfolding most_cells
store_ends-requires c =
    let p = (goal.at.store_ends-requires c).In-Some in
    let t = turn p in
    let x = next p in
    let same = ragged_same c.loop-row.invariant.0 in (
      omega (arith, t.here, x.room_offsets),
      record {
        there = offset_there c.requires.asked (c.in-Some.row.first + c.in-Some.row.cells) t.row.inside;
        rises = λ j h. c.requires.asked.rises j (omega (arith, t.row.inside));
        few_cells = omega (arith, t.row.inside, c.args.subset.asked.shaped.few_cells);
        here = c.offset_at-begin.ensures;
        few_bytes = omega (arith, x.room, c.offset_at-begin.ensures, same);
      },
    )

pub overflow_add-total : goal.overflow_add-total
overflow_add-total c =
    let x = next (goal.at.overflow_add-total c).In-Some in
    omega (arith, x.room, c.offset_at-end.ensures, c.offset_at-begin.ensures, ragged_same c.loop-row.invariant.0)

pub loop-row-preserved : goal.loop-row-preserved
loop-row-preserved c =
    let t = turn (goal.at.loop-row-preserved c).In-Some in
    let v = c.args.src in (
      rw t.on (next_copied v.bytes.now v.base c.loop-row.invariant.0 t.row c.requires.asked.rises c.requires.asked.data_room
          c.offset_at-begin.ensures c.offset_at-end.ensures c.copy_bytes.ensures (rw t.here at c.store_ends.ensures)),
      t.same,
    )

pub returns-clause-values : goal.returns-clause-values
returns-clause-values c = ragged_values c.loop-row.invariant.0 (rows_end c.args.subset c.loop-row.row-iterator c.loop-row.invariant.1 c.in-None.ensures.steps)

pub returns-clause-offsets : goal.returns-clause-offsets
returns-clause-offsets c = ragged_offsets c.loop-row.invariant.0 (rows_end c.args.subset c.loop-row.row-iterator c.loop-row.invariant.1 c.in-None.ensures.steps)

pub returns-clause-total : goal.returns-clause-total
returns-clause-total c = ragged_total c.loop-row.invariant.0 (rows_end c.args.subset c.loop-row.row-iterator c.loop-row.invariant.1 c.in-None.ensures.steps)
