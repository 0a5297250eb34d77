-- `put::put_planes` meets its contract: one plane after another.
use Rattle.arrangement.proofs.Laid.{planes_begin, planes_more, planes_end}
use Rattle.arrangement.proofs.put.put_planes.Goals as goal

pub loop-level-init : goal.loop-level-init
loop-level-init c = planes_begin _ _ _ _ c.requires

pub loop-level-preserved : goal.loop-level-preserved
loop-level-preserved c = planes_more c.loop-level.invariant c.loop-level-test.true c.put_plane.ensures

pub returns : goal.returns
returns c = planes_end c.loop-level.invariant c.loop-level-test.false
