-- `encode_frames::write_stored` meets its contract: without masks ragged values are all that is stored.
-- Assumes nothing.
use mathlib.Core.Path.{sym, ap}
use native.Mathlib.Omega.{arith}
use lib.ListN.{length}
use Rattle.encode_cells.proofs.Placing.{laid_as}
use Rattle.encode_frames.proofs.Frames.{ragged_stored}
use Rattle.encode_frames.proofs.write_stored.Goals as goal

pub put_plain-requires : goal.put_plain-requires
put_plain-requires c =
    let stored = ragged_stored c.args.kind c.requires.ready c.if-depth-gt0.false c.in-Ragged.is in
    omega (arith, c.requires.room, ap length stored)

pub returns-in-Ragged : goal.returns-in-Ragged
returns-in-Ragged c =
    let stored = ragged_stored c.args.kind c.requires.ready c.if-depth-gt0.false c.in-Ragged.is in
    laid_as 0 c.args.out.now c.put_plain.ensures (sym stored)
