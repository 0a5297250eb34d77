-- `digits::walk` meets its contract, by the laws of Walking.
use Rattle.arrangement.proofs.Walking.{Walk}
use Rattle.arrangement.proofs.digits.walk.Given as goal

abbrev pub invariant-loop-i : goal.invariant-loop-i
invariant-loop-i l = Walk l.depth l.cells l.number l.each l.left l.bytes l.i
