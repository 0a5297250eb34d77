-- `table_place::put_bytes` meets its contract, by the laws of Places.
-- Assumes nothing.
use native.Mathlib.Omega.{arith}
use Rattle.table_place.proofs.Places.{roomy_fits, put_is}
use Rattle.table_place.proofs.put_bytes.Goals as goal

pub copy_many-requires : goal.copy_many-requires
copy_many-requires c =
    let pre = c.requires in
    (omega (arith, roomy_fits pre.0 c.room_for-place.ensures pre.5, c.room_for-place.auto), omega arith)

pub returns : goal.returns
returns c =
    let pre = c.requires in
    put_is pre.6 c.room_for-place.ensures c.copy_many.ensures
