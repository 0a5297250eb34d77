-- `store_subset` meets its contract: the rows before the iterator's place are stored (proofs/RowsStored).
-- Assumes nothing.
use Prim.Native.Nat.{◌+◌, ◌*◌, ◌≤◌}
use native.Mathlib.Omega.{arith}
use lib.ListN.{length}
use Rattle.array.specs.Shape.{volume}
use Rattle.subset.proofs.Steps.{RowStep, row_step}
use Rattle.merge_stores.proofs.RowsStored.{fixed_more, fixed_room}
use Rattle.merge_stores.proofs.cells.store_subset.Goals.{In-Some}
use Rattle.merge_stores.proofs.cells.store_subset.Goals as goal

turn : (c : In-Some) → RowStep c.args.subset c.loop-row.row-iterator c.in-Some.row c.next.new.self
turn c = row_step c.args.subset c.loop-row.row-iterator c.loop-row.invariant.1 c.in-Some.row c.next.new.self c.in-Some.ensures.steps

room : (c : In-Some) → let a = c.args in a.base + c.in-Some.row.first * a.size + c.in-Some.row.cells * a.size ≤ length a.out.now
room c =
    let a = c.args in
    fixed_room a.base a.size (volume a.subset.shape.now) c.in-Some.row.first c.in-Some.row.cells (length a.out.now) (turn c).row.inside c.requires.room

enough : (c : In-Some) → let a = c.args in a.first + c.loop-row.row-iterator.at * a.size + c.in-Some.row.cells * a.size ≤ length a.src.now
enough c =
    let a = c.args in
    fixed_room a.first a.size a.subset.count c.loop-row.row-iterator.at c.in-Some.row.cells (length a.src.now) (turn c).row.within c.requires.enough

pub copy_bytes-requires : goal.copy_bytes-requires
copy_bytes-requires c =
    let p = (goal.at.copy_bytes-requires c).In-Some in
    rw (turn p).here (omega (arith, c.loop-row.invariant.0.long, room p), enough p)

pub loop-row-preserved : goal.loop-row-preserved
loop-row-preserved c =
    let a = c.args in
    let p = (goal.at.loop-row-preserved c).In-Some in
    let t = turn p in
    (rw t.on (fixed_more a.base a.size a.src.now a.first c.loop-row.invariant.0 t.row (room p) (enough p) (rw t.here at c.copy_bytes.ensures)), t.same)
