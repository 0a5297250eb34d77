-- `put::put_offsets` meets its contract: one offset after another.
use Rattle.arrange.specs.Places.{state_at, value_in}
use Rattle.arrangement.proofs.Laid.{Ends}
use Rattle.arrangement.proofs.put.put_offsets.Given as goal

abbrev pub invariant-loop-j : goal.invariant-loop-j
invariant-loop-j l =
    Ends (λ j. value_in l.states.depth (state_at l.states.depth l.states.cells l.states.number j)) l.states.cells l.initial.out l.out l.to l.j
