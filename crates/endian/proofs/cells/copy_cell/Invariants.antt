-- `endian::cells::copy_cell`: the last bytes lie there, sixteen a turn (Backing).
-- Assumes nothing.
use Prim.Native.Nat.{◌-◌, ◌*◌}
use Rattle.endian.proofs.Backing.{Backing}
use Rattle.endian.proofs.cells.copy_cell.Given as goal

abbrev pub invariant-loop-i : goal.invariant-loop-i
invariant-loop-i l = Backing l.initial.out l.to l.s l.at l.size l.out (l.i * 16) (l.size - l.i * 16)
