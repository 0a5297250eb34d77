-- `cell::draw_parts` meets its contract, by the laws of Drawing.
-- Assumes nothing.
use Prim.Native.Nat.{◌-◌}
use Rattle.generate.proofs.Drawing.{Storing}
use Rattle.generate.proofs.cell.draw_parts.Given as goal

abbrev pub invariant-loop-i : goal.invariant-loop-i
invariant-loop-i l = Storing l.n l.initial.g.state l.initial.values l.to l.values l.g.state l.i

abbrev pub decreases-loop-i : goal.decreases-loop-i
decreases-loop-i l = l.n - l.i
