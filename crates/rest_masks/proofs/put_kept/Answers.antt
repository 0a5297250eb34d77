-- `put_kept` meets its contract, by the laws of Numbering.
-- Assumes nothing.
use mathlib.Core.Path.{sym}
use native.Mathlib.Nat.{zero-add}
use native.Mathlib.Omega.{arith}
use Rattle.rest_masks.proofs.Numbering.{number_begins, number-ends, number_more}
use Rattle.rest_masks.proofs.put_kept.Goals as goal

pub loop-j-init : goal.loop-j-init
loop-j-init c = number_begins _ _ _ _ (omega (arith, c.requires.0))

pub loop-j-preserved : goal.loop-j-preserved
loop-j-preserved c = number_more c.loop-j.invariant c.loop-j-test.true c.kept.ensures (sym (zero-add c.loop-j.j))

pub returns : goal.returns
returns c = number-ends c.loop-j.invariant c.loop-j-test.false
