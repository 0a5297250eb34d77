-- `fixed::draw_cells` meets its contract, by the laws of Making.
-- Assumes nothing.
use mathlib.Core.Path.{sym}
use Prim.Native.Nat.{◌*◌}
use native.Mathlib.Omega.{arith}
use Rattle.load.proofs.Drawn.{drawn_cell, drawn_total}
use Rattle.generate.specs.Cells.{sized}
use Rattle.generate.proofs.Making.{make_begins, make_column, make_room, make_more, make_masks, make_values, zeros_length}
use Rattle.generate.proofs.fixed.draw_cells.Goals as goal

pub loop-at-init : goal.loop-at-init
loop-at-init c =
    let a = c.args in
    let same = zeros_length (a.load.depth * a.load.n) a.masks.now c.requires.for_masks c.fill_bytes.ensures in
    make_begins (sized a.size) a.load.depth a.load.n a.load.first.state c.fill_bytes.new.out a.values.now (omega (arith, c.requires.for_masks, same))
    (omega (arith, drawn_total (sized a.size) a.load.depth a.load.n a.load.first.state, c.requires.for_values))

pub draw_cell-g-requires : goal.draw_cell-g-requires
draw_cell-g-requires c =
    let a = c.args in
    let size_of = (drawn_cell (sized a.size) a.load.depth c.loop-at.g.state).value.sized in
    (make_column c.loop-at.invariant a.load.limited (omega arith), omega (arith, make_room c.loop-at.invariant (omega arith), size_of))

pub loop-at-preserved : goal.loop-at-preserved
loop-at-preserved c =
    let a = c.args in
    let size_of = (drawn_cell (sized a.size) a.load.depth c.loop-at.g.state).value.sized in
    let drawn = c.draw_cell-g.ensures in
    make_more c.loop-at.invariant (omega arith) drawn.marks drawn.stores (sym size_of) drawn.draws

pub returns : goal.returns
returns c =
    let inv = c.loop-at.invariant in
    let end = c.loop-at-test.false in
    record { planes = make_masks inv end c.args.masks.now c.fill_bytes.ensures c.requires.for_masks; joins = make_values inv end }
