-- `interleaved::vlen_v2::walk_cells` meets its contract, by the laws of Walking.
-- Assumes nothing.
use mathlib.Core.Path.{◌≡◌, sym, ◌∙◌}
use Prim.Native.Nat.{◌+◌, ◌<◌, ◌-◌}
use native.Mathlib.Omega.{arith}
use Rattle.array.proofs.Answers.{told_same}
use Rattle.buffer.proofs.Fields.{field_refused}
use Rattle.decode_interleaved.proofs.Steps.{length_at, field_read}
use Rattle.decode_interleaved.proofs.Loops.{walk_is, walk_ends, walk_field_past, walk_cell_past, walk_more, walk_none}
use Rattle.decode_interleaved.proofs.vlen_v2.walk_cells.Goals.{then-length-gt0+then-length-last+else-bytes-at, then-length-gt0+else-length-last+else-bytes-at-2, else-length-gt0}
use Rattle.decode_interleaved.proofs.vlen_v2.walk_cells.Goals as goal

pub returns-in_default : goal.returns-in_default
returns-in_default c =
    walk_field_past c.loop.invariant (omega (arith, c.loop-test.true))
    (field_refused 4 11 _ _ _ (sym c.read_u32.ensures ∙ told_same c.in_default.is)).0

pub overflow_add-at : goal.overflow_add-at
overflow_add-at c = omega (arith, field_read _ _ c.read_u32.ensures c.in-Ok.is)

pub overflow_sub-bytes : goal.overflow_sub-bytes
overflow_sub-bytes c = omega (arith, field_read _ _ c.read_u32.ensures c.in-Ok.is)

pub returns-then-bytes-at : goal.returns-then-bytes-at
returns-then-bytes-at c =
    let read = field_read _ _ c.read_u32.ensures c.in-Ok.is in
    let same : c.loop.last ≡ length_at c.args.bytes.now c.loop.at = sym c.if-length-last.true ∙ read.1 in
    walk_cell_past c.loop.invariant (omega (arith, c.loop-test.true)) read.0 same c.if-bytes-at.true

pub overflow_sub-bytes-else-length-last : goal.overflow_sub-bytes-else-length-last
overflow_sub-bytes-else-length-last c = omega (arith, field_read _ _ c.read_u32.ensures c.in-Ok.is)

pub returns-then-bytes-at-2 : goal.returns-then-bytes-at-2
returns-then-bytes-at-2 c =
    let read = field_read _ _ c.read_u32.ensures c.in-Ok.is in
    walk_cell_past c.loop.invariant (omega (arith, c.loop-test.true)) read.0 read.1 c.if-bytes-at-2.true

pub loop-preserved : goal.loop-preserved
loop-preserved c =
    let inv = c.loop.invariant in
    let more : 0 < c.args.cells - c.loop.counter = omega (arith, c.loop-test.true) in
    let one : c.args.cells - (c.loop.counter + 1) ≡ c.args.cells - c.loop.counter - 1 = omega arith in
    let read = field_read _ _ c.read_u32.ensures c.in-Ok.is in
    elim c.if-length-gt0.branch [
      | then-length-gt0+then-length-last+else-bytes-at w ↦ walk_is (walk_more inv more read.0 (sym w.if-length-last.true ∙ read.1) w.if-bytes-at.false) one w.at-is w.sum-is
      | then-length-gt0+else-length-last+else-bytes-at-2 w ↦ walk_is (walk_more inv more read.0 read.1 w.if-bytes-at-2.false) one w.at-is w.sum-is
      | else-length-gt0 w ↦ walk_is (walk_none inv more read.0 read.1 w.if-length-gt0.false) one w.at-is w.sum-is
    ]

pub returns : goal.returns
returns c = walk_ends c.loop.invariant (omega (arith, c.loop-test.false))
