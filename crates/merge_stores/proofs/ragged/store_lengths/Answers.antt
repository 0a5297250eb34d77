-- `store_lengths` meets its contract: the rows before the iterator's place are stored (proofs/RowsStored, proofs/LengthRows).
-- Assumes nothing.
use Prim.Native.Nat.{suc, ◌+◌}
use mathlib.Core.Path.{◌≡◌, ap}
use native.Mathlib.Omega.{arith}
use Rattle.array.specs.Places.{offset_at}
use Rattle.subset.proofs.Steps.{RowStep, row_step}
use Rattle.merge_stores.proofs.LengthRows.{lengths_row}
use Rattle.merge_stores.proofs.ragged.store_lengths.Goals.{In-Some}
use Rattle.merge_stores.proofs.ragged.store_lengths.Goals as goal

turn : (c : In-Some) → RowStep c.args.subset c.loop-row.row-iterator c.in-Some.row c.next.new.self
turn c = row_step c.args.subset c.loop-row.row-iterator c.loop-row.invariant.1 c.in-Some.row c.next.new.self c.in-Some.ensures.steps

pub store_steps-requires : goal.store_steps-requires
store_steps-requires c =
    let a = c.args in
    let t = turn (goal.at.store_steps-requires c).In-Some in
    let at = c.loop-row.row-iterator.at in
    rw t.here (
      omega (arith, c.loop-row.invariant.0.long, t.row.inside, c.requires.room),
      omega (arith, t.row.within, c.requires.indexed),
      λ i h.
          let e : a.first + (at + i) ≡ a.first + at + i = omega arith in
          let e' : a.first + suc (at + i) ≡ a.first + at + suc i = omega arith in
          omega (arith, c.requires.rises (at + i) (omega (arith, t.row.within)), ap (offset_at a.src.now) e, ap (offset_at a.src.now) e'),
    )

pub loop-row-preserved : goal.loop-row-preserved
loop-row-preserved c =
    let t = turn (goal.at.loop-row-preserved c).In-Some in
    (rw t.on (lengths_row c.args.src.now c.args.first c.loop-row.invariant.0 t.row (omega (arith, t.row.inside, c.requires.room)) (rw t.here at c.store_steps.ensures)), t.same)
