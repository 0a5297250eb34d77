-- `store_bytes` meets its contract: cell by cell (proofs/Walking).
-- Assumes nothing.
use mathlib.Core.Path.{sym, ap, ap₂}
use native.Mathlib.Omega.{arith}
use lib.ListN.{length}
use Rattle.array.specs.Limits.{most_cells}
use Rattle.subset.proofs.Rows.{asked_few, asked_count}
use Rattle.subset.specs.Cells.{cells_of}
use Rattle.migrate_check.specs.Chunks.{stored_of}
use Rattle.migrate_cells.specs.Reading.{NextCell}
use Rattle.migrate_extract.specs.Chunks.{place_for, Placed}
use Rattle.migrate_extract.proofs.Walking.{cell_long, walking_begins, walking_ends, walking_none, walking_here, walking_some}
use Rattle.migrate_extract.proofs.Effects.{apart_places, apart_asked, bytes_left, bytes_one, place_small}
use Rattle.migrate_extract.proofs.chunk.store_bytes.Goals.{After-cell_of-cell, in-Some, in_default}
use Rattle.migrate_extract.proofs.chunk.store_bytes.Goals as goal

pub begin_of-at-requires : goal.begin_of-at-requires
unfolding most_cells
begin_of-at-requires c = asked_few c.args.part.asked

next : (c : After-cell_of-cell) → NextCell (stored_of c.args.stored) c.args.part.count c.loop-i.i c.cell_of-cell.result.begin c.cell_of-cell.result.size c.loop-i.invariant.values
next c = c.cell_of-cell.ensures c.args.part.count c.loop-i.invariant.values c.loop-i-test.true c.loop-i.invariant.left

pub loop-i-init : goal.loop-i-init
unfolding most_cells
loop-i-init c =
    let a = c.args in
    walking_begins (bytes_left a.begins.now) (Placed a.begins.now (length a.values.now)) (place_for a.asked) (stored_of a.stored) a.part.count (cells_of a.part) a.values.now
    (asked_few a.part.asked) c.requires.read.read c.begin_of-at.ensures c.requires.placed

pub offset_bounds-begins-place : goal.offset_bounds-begins-place
offset_bounds-begins-place c = omega (arith, place_small c.args.asked c.args.part c.loop-i.i c.in-Some.place c.in-Some.ensures, c.requires.room)

pub bounds-begins-place : goal.bounds-begins-place
bounds-begins-place c = omega (arith, place_small c.args.asked c.args.part c.loop-i.i c.in-Some.place c.in-Some.ensures, c.requires.room)

pub copy_exactly-requires : goal.copy_exactly-requires
copy_exactly-requires c =
    let q = next (goal.at.copy_exactly-requires c).After-cell_of-cell in
    let here = walking_here c.loop-i.invariant (asked_count c.args.part.asked) c.loop-i-test.true q c.in-Some.place (sym c.in-Some.ensures) in
    (omega (arith, here.room, cell_long q, c.loop-i.auto.values), omega (arith, q.fits, ap length c.bytes_of-bytes.ensures))

pub loop-i-preserved : goal.loop-i-preserved
loop-i-preserved c =
    let q = next (goal.at.loop-i-preserved c).After-cell_of-cell in
    let w = c.loop-i.invariant in
    let n = asked_count c.args.part.asked in
    elim c.match-asked_place.branch [
      | in-Some b ↦
          let here = walking_here w n c.loop-i-test.true q b.in-Some.place (sym b.in-Some.ensures) in
          rw b.values-is (walking_some w n c.loop-i-test.true q b.in-Some.place (sym b.in-Some.ensures) _ (bytes_one c.args.begins.now c.loop-i.values _
          (record { long = here.long; room = omega (arith, here.room, c.loop-i.auto.values) }) (rw c.bytes_of-bytes.ensures at b.copy_exactly.ensures)))
      | in_default b ↦ rw b.values-is (walking_none w n c.loop-i-test.true q (sym b.in_default.ensures))
    ]

pub returns : goal.returns
returns c = walking_ends c.loop-i.invariant (asked_count c.args.part.asked) c.loop-i-test.false

pub returns-then-apart : goal.returns-then-apart
returns-then-apart c =
    let a = c.args in
    ap₂ (bytes_left a.begins.now a.values.now) (sym (apart_places a.asked a.part c.requires.read.shape c.if-apart.ensures))
    (sym (apart_asked a.asked a.part c.requires.read.shape c.if-apart.ensures (stored_of a.stored)))
