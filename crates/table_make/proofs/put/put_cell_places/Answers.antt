-- `put::put_cell_places` meets its contract, by the laws of Placing.
-- Assumes nothing.
use Prim.Native.Nat.{◌+◌}
use native.Mathlib.Omega.{arith}
use Rattle.encode_data.proofs.Summing.{summing_fits}
use Rattle.rest_masks.proofs.Numbering.{number-ends}
use Rattle.table_make.proofs.Placing.{place_begins, place_more}
use Rattle.table_make.proofs.put.put_cell_places.Goals as goal

pub loop-j-init : goal.loop-j-init
loop-j-init c =
    let a = c.args in
    let l = a.places.live.level in
    place_begins l.cells l.masks.now l.depth a.places.offsets.now a.starts.now a.lengths.now a.places.rising c.requires.0 c.requires.1

pub overflow_add-to : goal.overflow_add-to
overflow_add-to c =
    omega (arith, summing_fits c.loop-j.invariant.sums c.loop-j-test.true c.mark-mark.ensures, c.type_inv.offsets (c.loop-j.j + 1))

pub loop-j-preserved : goal.loop-j-preserved
loop-j-preserved c = place_more c.loop-j.invariant c.loop-j-test.true c.mark-mark.ensures c.start_at.ensures

pub returns : goal.returns
returns c = record { starts = number-ends c.loop-j.invariant.begins c.loop-j-test.false; lengths = number-ends c.loop-j.invariant.sizes c.loop-j-test.false }
