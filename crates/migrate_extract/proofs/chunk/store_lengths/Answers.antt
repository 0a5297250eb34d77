-- `store_lengths` meets its contract: cell by cell (proofs/Walking).
-- Assumes nothing.
use mathlib.Core.Path.{sym, ap₂}
use native.Mathlib.Omega.{arith}
use Rattle.array.specs.Limits.{most_cells}
use Rattle.subset.proofs.Rows.{asked_few, asked_count}
use Rattle.subset.specs.Cells.{cells_of}
use Rattle.migrate_check.specs.Chunks.{stored_of}
use Rattle.migrate_cells.specs.Reading.{NextCell}
use Rattle.migrate_extract.specs.Chunks.{place_for}
use Rattle.migrate_extract.proofs.Walking.{cell_long, walking_begins, walking_ends, walking_none, walking_some}
use Rattle.migrate_extract.proofs.Effects.{apart_places, apart_asked, Any, each_any, lengths_left, lengths_one, place_small}
use Rattle.migrate_extract.proofs.chunk.store_lengths.Goals.{After-cell_of-cell, in-Some, in_default}
use Rattle.migrate_extract.proofs.chunk.store_lengths.Goals as goal

pub begin_of-at-requires : goal.begin_of-at-requires
unfolding most_cells
begin_of-at-requires c = asked_few c.args.part.asked

next : (c : After-cell_of-cell) → NextCell (stored_of c.args.stored) c.args.part.count c.loop-i.i c.cell_of-cell.result.begin c.cell_of-cell.result.size c.loop-i.invariant.values
next c = c.cell_of-cell.ensures c.args.part.count c.loop-i.invariant.values c.loop-i-test.true c.loop-i.invariant.left

pub loop-i-init : goal.loop-i-init
unfolding most_cells
loop-i-init c =
    walking_begins lengths_left Any (place_for c.args.asked) (stored_of c.args.stored) c.args.part.count (cells_of c.args.part) c.args.offsets.now (asked_few c.args.part.asked) c.requires.read.read
    c.begin_of-at.ensures (each_any _ _)

pub overflow_add-offsets : goal.overflow_add-offsets
overflow_add-offsets c = omega (arith, place_small c.args.asked c.args.part c.loop-i.i c.in-Some.place c.in-Some.ensures, c.requires.room)

pub offset_bounds-offsets-place : goal.offset_bounds-offsets-place
offset_bounds-offsets-place c = omega (arith, place_small c.args.asked c.args.part c.loop-i.i c.in-Some.place c.in-Some.ensures, c.requires.room, c.loop-i.auto.offsets)

pub bounds-offsets-place : goal.bounds-offsets-place
bounds-offsets-place c = omega (arith, place_small c.args.asked c.args.part c.loop-i.i c.in-Some.place c.in-Some.ensures, c.requires.room, c.loop-i.auto.offsets)

pub loop-i-preserved : goal.loop-i-preserved
loop-i-preserved c =
    let q = next (goal.at.loop-i-preserved c).After-cell_of-cell in
    let w = c.loop-i.invariant in
    let n = asked_count c.args.part.asked in
    elim c.match-asked_place.branch [
      | in-Some b ↦
          rw b.offsets-is (walking_some w n c.loop-i-test.true q b.in-Some.place (sym b.in-Some.ensures) _ (lengths_one c.loop-i.offsets c.cell_of-cell.result.size _ (cell_long q) b.in-Some.place))
      | in_default b ↦ rw b.offsets-is (walking_none w n c.loop-i-test.true q (sym b.in_default.ensures))
    ]

pub returns : goal.returns
returns c = walking_ends c.loop-i.invariant (asked_count c.args.part.asked) c.loop-i-test.false

pub returns-then-apart : goal.returns-then-apart
returns-then-apart c =
    let a = c.args in
    ap₂ (lengths_left a.offsets.now) (sym (apart_places a.asked a.part c.requires.read.shape c.if-apart.ensures))
    (sym (apart_asked a.asked a.part c.requires.read.shape c.if-apart.ensures (stored_of a.stored)))
