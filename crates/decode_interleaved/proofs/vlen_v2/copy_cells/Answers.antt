-- `interleaved::vlen_v2::copy_cells` meets its contract, by the laws of Copying.
-- Assumes nothing.
use Prim.Native.Nat.{◌+◌, ◌-◌, ◌≤◌}
use native.Mathlib.Omega.{arith}
use lib.ListN.{length}
use Rattle.decode_interleaved.proofs.Loops.{copy_begins, copy_values_end, copy_offsets_end, copy_field, copy_cell, copy_none, copy_is, copy_fits, copy_source, copy_more}
use Rattle.decode_interleaved.proofs.vlen_v2.copy_cells.Goals.{then-length-gt0, else-length-gt0}
use Rattle.decode_interleaved.proofs.vlen_v2.copy_cells.Goals as goal

pub loop-i-init : goal.loop-i-init
loop-i-init c =
    let pre = c.requires in
    copy_begins pre.0 (omega (arith, pre.1, pre.2)) pre.3

pub le4_at-length-requires : goal.le4_at-length-requires
le4_at-length-requires c = copy_field c.loop-i.invariant c.loop-i-test.true

pub overflow_add-at : goal.overflow_add-at
overflow_add-at c =
    let cell : c.loop-i.at + 4 + c.le4_at-length.result ≤ length c.args.bytes.now = copy_cell c.loop-i.invariant c.loop-i-test.true c.le4_at-length.result c.le4_at-length.ensures in
    omega (arith, cell)

pub copy_cell-requires : goal.copy_cell-requires
copy_cell-requires c =
    let room : (c.loop-i.to ≤ c.args.sum) × (c.le4_at-length.result ≤ c.args.sum - c.loop-i.to) =
    copy_fits c.loop-i.invariant c.loop-i-test.true c.le4_at-length.result c.le4_at-length.ensures c.requires.1 in (
      c.if-length-gt0.true,
      room.1,
      omega (arith, room, c.requires.2, c.loop-i.invariant.placed.same),
      copy_source c.loop-i.invariant c.loop-i-test.true c.le4_at-length.result c.le4_at-length.ensures c.requires.1,
    )

pub overflow_add-at-then-length-gt0 : goal.overflow_add-at-then-length-gt0
overflow_add-at-then-length-gt0 c =
    let cell : c.loop-i.at + 4 + c.le4_at-length.result ≤ length c.args.bytes.now = copy_cell c.loop-i.invariant c.loop-i-test.true c.le4_at-length.result c.le4_at-length.ensures in
    omega (arith, cell)

pub loop-i-preserved : goal.loop-i-preserved
loop-i-preserved c =
    let inv = c.loop-i.invariant in
    let within = c.loop-i-test.true in
    elim c.if-length-gt0.branch [
      | then-length-gt0 w ↦
          copy_is (copy_more inv within c.le4_at-length.result c.le4_at-length.ensures c.requires.1 w.copy_cell.ensures) w.values-is w.at-is w.to-is
      | else-length-gt0 w ↦
          copy_is (copy_none inv within c.le4_at-length.result c.le4_at-length.ensures w.if-length-gt0.false) w.values-is w.at-is w.to-is
    ]

pub returns : goal.returns
returns c =
    let end = c.loop-i-test.false in
    record { joins = copy_values_end c.loop-i.invariant end; places = copy_offsets_end c.loop-i.invariant end (omega arith) }
