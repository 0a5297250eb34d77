-- `masks::put_masks` meets its contract, by the law of a column.
-- Assumes nothing.
use native.Mathlib.Omega.{arith}
use mathlib.Core.Path.{◌≡◌}
use lib.ListN.{length}
use Rattle.table_setting.proofs.Columns.{storing_ends}
use Rattle.table_setting.proofs.masks.put_masks.Goals as goal

pub returns : goal.returns
returns c =
    let pre = c.requires in
    let end : c.loop-b.b-index ≡ length c.args.setting.masks.now = omega arith in
    storing_ends c.loop-b.invariant end pre.1 pre.0
