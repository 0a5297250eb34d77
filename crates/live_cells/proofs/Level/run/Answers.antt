-- `live_cells::Level::run` meets its contract: the run from i is what was passed and the run from j.
-- Assumes nothing.
use mathlib.Core.Path.{sym, ◌∙◌}
use Prim.Native.Nat.{◌-◌}
use native.Mathlib.Omega.{arith}
use Rattle.array.specs.Places.{shown_at}
use Rattle.live_cells.proofs.Runs.{live_none, run_all, run_goes}
use Rattle.live_cells.proofs.LiveMarks.{one_true}
use Rattle.live_cells.proofs.Level.run.Goals as goal

pub returns-then-self-eq0 : goal.returns-then-self-eq0
returns-then-self-eq0 c =
    let l = c.args.self in
    sym (run_all (shown_at l.cells l.masks.now l.depth) (λ i. live_none l.cells l.masks.now i l.depth c.if-self-eq0.true) c.args.i (l.cells - c.args.i))

pub loop-j-preserved : goal.loop-j-preserved
loop-j-preserved c =
    let l = c.args.self in
    let shown = shown_at l.cells l.masks.now l.depth in
    let one = one_true (shown c.loop-j.j) (λ z. c.if-mark-eq0.false (c.mark.ensures ∙ z)) in
    omega (arith, c.loop-j.invariant, run_goes shown c.loop-j.j l.cells (omega arith) one)
