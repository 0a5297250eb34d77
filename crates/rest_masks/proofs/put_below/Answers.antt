-- `put_below` meets its contract, by the laws of Topped.
-- Assumes nothing.
use native.Mathlib.Omega.{arith}
use Rattle.rest_masks.proofs.Topped.{plane_behind}
use Rattle.rest_masks.proofs.put_below.Goals as goal

pub returns : goal.returns
returns c =
    let a = c.args in
    let parts = c.split_at_mut-before.ensures in
    plane_behind a.cells a.at a.masks.now a.out.now (omega (arith, c.requires.0)) parts.front parts.back c.put_kept.ensures
