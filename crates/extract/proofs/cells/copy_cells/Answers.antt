-- `copy_cells` meets its contract: the rows before the iterator's place lie in place (proofs/Walk).
-- Assumes nothing.
use Prim.Native.Nat.{◌+◌, ◌*◌, ◌≤◌}
use native.Mathlib.Nat.{zero-mul, add-mul}
use lib.ListN.{length}
use Rattle.array.specs.Shape.{volume}
use Rattle.array.specs.Places.{fixed_at}
use Rattle.subset.specs.Cells.{cells_of}
use Rattle.subset.proofs.Rows.{asked_left, asked_below, asked_count}
use Rattle.subset.proofs.Steps.{RowStep, row_step, rows_end}
use Rattle.cut_ragged.proofs.Walk.{copied_begins, copied_ends}
use Rattle.extract.proofs.Walk.{fixed_long, fixed_source, fixed_room, fixed_copied}
use Rattle.extract.proofs.cells.copy_cells.Goals.{In-Some}
use Rattle.extract.proofs.cells.copy_cells.Goals as goal

turn : (c : In-Some) → RowStep c.args.subset c.loop-row.row-iterator c.in-Some.row c.next.new.self
turn c = row_step c.args.subset c.loop-row.row-iterator c.loop-row.invariant.1 c.in-Some.row c.next.new.self c.in-Some.ensures.steps

source : (c : In-Some) → let a = c.args in a.base + c.in-Some.row.first * a.size + c.in-Some.row.cells * a.size ≤ length a.src.now
source c = let a = c.args in fixed_source a.base a.size (turn c).row a.src.now c.requires.source

room : (c : In-Some) → let a = c.args in a.to + c.loop-row.row-iterator.at * a.size + c.in-Some.row.cells * a.size ≤ length c.loop-row.out
room c = let a = c.args in fixed_room a.base a.size (turn c).row a.src.now c.requires.source c.loop-row.invariant.0

pub loop-row-init : goal.loop-row-init
loop-row-init c =
    let a = c.args in
    let r = c.rows-row-items.ensures in
    let long = fixed_long a.base a.size (volume a.subset.shape.now) a.src.now (cells_of a.subset) c.requires.source (asked_below a.subset.asked) in
    rw (c.into_iter-row-iterator.ensures.into_iter_gives, r.begin, zero-mul a.size)
    (copied_begins (fixed_at a.base a.size) a.src.now a.out.now a.to (asked_left a.subset.asked) (rw (long, asked_count a.subset.asked) c.requires.room), r.of)

pub copy_bytes-requires : goal.copy_bytes-requires
copy_bytes-requires c =
    let p = (goal.at.copy_bytes-requires c).In-Some in
    rw (turn p).here (room p, source p)

pub loop-row-preserved : goal.loop-row-preserved
loop-row-preserved c =
    let a = c.args in
    let p = (goal.at.loop-row-preserved c).In-Some in
    let t = turn p in (
      rw (t.on, add-mul c.loop-row.row-iterator.at c.in-Some.row.cells a.size)
          (fixed_copied a.base a.size t.row a.src.now c.requires.source c.loop-row.invariant.0 (rw t.here at c.copy_bytes.ensures)),
      t.same,
    )

pub returns : goal.returns
returns c = copied_ends c.loop-row.invariant.0 (rows_end c.args.subset c.loop-row.row-iterator c.loop-row.invariant.1 c.in-None.ensures.steps)
