-- `ragged::draw_cells` meets its contract, by the laws of Making.
-- Assumes nothing.
use mathlib.Core.Path.{ap}
use Prim.Native.Nat.{ℕ, ◌*◌}
use native.Mathlib.Omega.{arith}
use Rattle.load.specs.Generator.{Drew}
use Rattle.generate.specs.Cells.{lengthy}
use Rattle.generate.proofs.Making.{make_begins, make_column, make_room, make_more, make_masks, make_values}
use Rattle.generate.proofs.Making.{count-ends, zeros_length, place_begins, place_more, place_ends}
use Rattle.generate.proofs.ragged.draw_cells.Goals as goal

pub loop-at-init : goal.loop-at-init
loop-at-init c =
    let a = c.args in
    let l = a.load in
    let room = c.requires in
    let same = zeros_length (l.depth * l.n) a.masks.now room.for_masks c.fill_bytes.ensures in (
      make_begins lengthy l.depth l.n l.first.state c.fill_bytes.new.out a.values.now (omega (arith, room.for_masks, same)) room.for_values,
      place_begins lengthy l.depth l.n l.first.state a.offsets.now room.for_offsets,
    )

pub draw_cell-value-requires : goal.draw_cell-value-requires
draw_cell-value-requires c =
    let inv = c.loop-at.invariant.0 in
    (make_column inv c.args.load.limited (omega arith), make_room inv (omega arith))

pub loop-at-preserved : goal.loop-at-preserved
loop-at-preserved c =
    let drawn = c.draw_cell-value.ensures in
    let bytes = ap (λ (r : Drew ℕ). r.made) drawn.draws in
    let state = ap (λ (r : Drew ℕ). r.state) drawn.draws in (
      make_more c.loop-at.invariant.0 (omega arith) drawn.marks drawn.stores bytes state,
      place_more c.loop-at.invariant.1 (omega arith) bytes state,
    )

pub returns : goal.returns
returns c =
    let inv = c.loop-at.invariant in
    let end = c.loop-at-test.false in
    let masks = make_masks inv.0 end c.args.masks.now c.fill_bytes.ensures c.requires.for_masks in
    record { counts = count-ends inv.0.counted end; planes = masks; joins = make_values inv.0 end; places = place_ends inv.1 (omega arith) }
