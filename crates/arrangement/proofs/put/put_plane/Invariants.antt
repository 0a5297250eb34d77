-- `put::put_plane` meets its contract: one byte after another.
use Rattle.rest_masks.proofs.Numbering.{Numbering}
use Rattle.arrangement.specs.States.{mask_by}
use Rattle.arrangement.proofs.put.put_plane.Given as goal

abbrev pub invariant-loop-j : goal.invariant-loop-j
invariant-loop-j l = Numbering (mask_by l.states l.level) l.states.cells l.initial.out l.to l.out l.j
