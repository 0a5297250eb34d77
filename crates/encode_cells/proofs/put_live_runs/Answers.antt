-- `encode_cells::put_live_runs` meets its contract: by the laws of Storing.
-- Assumes nothing.
use Rattle.encode_cells.proofs.Gathering.{storing_begins, storing_ends, storing_source, storing_room, storing_more}
use Rattle.encode_cells.proofs.put_live_runs.Goals as goal

pub loop-i-init : goal.loop-i-init
loop-i-init c = storing_begins c.requires.1 c.requires.2

pub copy_cells-requires : goal.copy_cells-requires
copy_cells-requires c =
    let l = c.loop-i.invariant in
    (storing_room l c.run-run.ensures c.loop-i-test.true, storing_source l c.run-run.ensures c.loop-i-test.true)

pub loop-i-preserved : goal.loop-i-preserved
loop-i-preserved c = storing_more c.loop-i.invariant c.run-run.ensures c.loop-i-test.true c.copy_cells.ensures

pub returns : goal.returns
returns c = storing_ends c.loop-i.invariant c.loop-i-test.false
