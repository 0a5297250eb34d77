-- `guest::Guest::sum` meets its contract, by the laws of Summing.
-- Assumes nothing.
use Rattle.encode_data.proofs.Summing.{Summing}
use Rattle.guest_read.specs.Seen.{sees}
use Rattle.guest_read.proofs.guest.Guest.sum.Given as goal

abbrev pub invariant-loop-i : goal.invariant-loop-i
invariant-loop-i l = Summing (sees l.self) l.self.level.cells l.offsets l.total l.i
