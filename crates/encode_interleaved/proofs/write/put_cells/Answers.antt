-- `interleaved::write::put_cells` meets its contract, by the laws of Storing.
-- Assumes nothing.
use mathlib.Core.Path.{ap, ◌∙◌}
use Prim.Native.Nat.{ℕ, ◌<◌, ◌-◌}
use native.Mathlib.Omega.{arith}
use Rattle.encode_interleaved.proofs.Storing.{storing_begins, storing_done, storing_same, storing_ends, storing_rises}
use Rattle.encode_interleaved.proofs.Storing.{turns_are, end_is, storing_output, stored_same, storing_none, storing_is, storing_more}
use Rattle.encode_interleaved.proofs.write.put_cells.Goals.{then-size-gt0, else-size-gt0}
use Rattle.encode_interleaved.proofs.write.put_cells.Goals as goal

pub loop-end-init : goal.loop-end-init
loop-end-init c = storing_begins c.requires.held c.args.out.now c.requires.room c.put_u32.ensures

pub put_u32-requires-in-loop-end : goal.put_u32-requires-in-loop-end
put_u32-requires-in-loop-end c =
    let within : c.loop-end.end-index < c.args.cells = omega (arith, c.loop-end-test.true, turns_are c.args.offsets.now c.requires.held.counted) in
    omega (arith, storing_output c.loop-end.invariant within)

pub overflow_sub-values : goal.overflow_sub-values
overflow_sub-values c =
    let within : c.loop-end.end-index < c.args.cells = omega (arith, c.loop-end-test.true, turns_are c.args.offsets.now c.requires.held.counted) in
    omega (arith, storing_rises c.loop-end.invariant within)

pub put_cell-requires : goal.put_cell-requires
put_cell-requires c =
    let within : c.loop-end.end-index < c.args.cells = omega (arith, c.loop-end-test.true, turns_are c.args.offsets.now c.requires.held.counted) in
    let inv = c.loop-end.invariant in
    let end = end_is c.args.offsets.now c.requires.held.counted c.loop-end.end-index in
    let size = ap (λ (e : ℕ). e - c.loop-end.start) end in (
      omega (arith, end, storing_rises inv within),
      omega (arith, storing_output inv within, stored_same inv within c.put_u32-in-loop-end.ensures size, storing_same inv),
      omega (arith, storing_rises inv within),
    )

pub loop-end-preserved : goal.loop-end-preserved
loop-end-preserved c =
    let within : c.loop-end.end-index < c.args.cells = omega (arith, c.loop-end-test.true, turns_are c.args.offsets.now c.requires.held.counted) in
    let inv = c.loop-end.invariant in
    let end = end_is c.args.offsets.now c.requires.held.counted c.loop-end.end-index in
    let size = ap (λ (e : ℕ). e - c.loop-end.start) end in
    let stored = c.put_u32-in-loop-end.ensures in
    elim c.if-size-gt0.branch [
      | then-size-gt0 w ↦ storing_is (storing_more inv within stored size w.put_cell.ensures) w.out-is (w.start-is ∙ end) w.at-is
      | else-size-gt0 w ↦ storing_is (storing_none inv within stored size w.if-size-gt0.false) w.out-is w.start-is w.at-is
    ]

pub returns : goal.returns
returns c =
    storing_done c.requires.held c.args.out.now c.requires.room c.put_u32.ensures
    (storing_ends c.loop-end.invariant (omega (arith, c.loop-end-test.false, turns_are c.args.offsets.now c.requires.held.counted)))
