-- `put_kept` meets its contract, by the laws of Numbering.
-- Assumes nothing.
use lib.ListN.{length}
use Rattle.rest_masks.specs.Rested.{kept_by}
use Rattle.rest_masks.proofs.Numbering.{Numbering}
use Rattle.rest_masks.proofs.put_kept.Given as goal

abbrev pub invariant-loop-j : goal.invariant-loop-j
invariant-loop-j l = Numbering (kept_by l.above l.masks) (length l.above) l.initial.out 0 l.out l.j
