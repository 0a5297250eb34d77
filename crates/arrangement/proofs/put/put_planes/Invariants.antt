-- `put::put_planes` meets its contract: one plane after another.
use Rattle.arrangement.specs.States.{mask_by}
use Rattle.arrangement.proofs.Laid.{Planes}
use Rattle.arrangement.proofs.put.put_planes.Given as goal

abbrev pub invariant-loop-level : goal.invariant-loop-level
invariant-loop-level l = Planes (mask_by l.states) l.states.cells l.states.depth l.initial.out l.out l.level
