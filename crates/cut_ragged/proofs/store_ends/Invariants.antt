-- `store_ends` meets its contract: the ends of the cells before `i` lie in place (proofs/Ragged).
-- Assumes nothing.
use Prim.Native.Nat.{suc, ◌+◌, ◌-◌}
use Rattle.cut_ragged.proofs.Ragged.{Images}
use Rattle.cut_ragged.specs.Source.{begins_in}
use Rattle.cut_ragged.proofs.store_ends.Given as goal

abbrev pub invariant-loop-i : goal.invariant-loop-i
invariant-loop-i l = Images (λ j. l.total + (begins_in l.src (suc j) - l.begin)) l.initial.out (l.row.at + 1) l.row.first l.row.cells l.out l.i
