-- `put_runs` meets its contract, by the laws of Showing: cells that are all shown, or all not, a turn.
-- Assumes nothing.
use Rattle.shown_cells.proofs.Showing.{showing_begins, showing_ends, run_room, run_source, showing_run}
use Rattle.shown_cells.proofs.put_runs.Goals as goal

pub loop-i-init : goal.loop-i-init
loop-i-init c = showing_begins c.requires

pub put_run-requires : goal.put_run-requires
put_run-requires c = (run_room c.loop-i.invariant c.run_end-end.ensures, run_source c.loop-i.invariant c.run_end-end.ensures)

pub loop-i-preserved : goal.loop-i-preserved
loop-i-preserved c = showing_run c.loop-i.invariant c.run_end-end.ensures c.put_run.ensures

pub returns : goal.returns
returns c = showing_ends c.loop-i.invariant c.loop-i-test.false
