-- `interleaved::write::write_cells` meets its contract, by the laws of Writes: the length is known before the first store.
-- Assumes nothing.
use native.Mathlib.Omega.{arith}
use Rattle.array.specs.Offsets.{slices}
use Rattle.encode_interleaved.proofs.Storing.{need_is}
use Rattle.encode_interleaved.proofs.Writes.{cells_long, cells_short, cells_written}
use Rattle.encode_interleaved.proofs.write.write_cells.Goals as goal

pub returns-then-not-fields_fit : goal.returns-then-not-fields_fit
returns-then-not-fields_fit c = cells_long (slices c.args.offsets.now c.args.values.now) c.args.out.now c.if-not-fields_fit.ensures

pub returns-then-out-need : goal.returns-then-out-need
returns-then-out-need c =
    cells_short (slices c.args.offsets.now c.args.values.now) c.args.out.now c.if-not-fields_fit.ensures (omega (arith, c.if-out-need.true, need_is c.requires))

pub put_cells-requires-clause-room : goal.put_cells-requires-clause-room
put_cells-requires-clause-room c = omega (arith, c.if-out-need.false, need_is c.requires)

pub returns : goal.returns
returns c =
    cells_written (slices c.args.offsets.now c.args.values.now) c.args.out.now c.if-not-fields_fit.ensures c.if-out-need.false (omega (arith, need_is c.requires)) c.put_cells.ensures
