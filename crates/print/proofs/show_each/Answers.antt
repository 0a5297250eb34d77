use Rattle.std.proofs.Common.{true, refl, ◌++◌}
use Rattle.std.proofs.Output.{has_written_append}
use Rattle.print.specs.declared.Last.TheVariants.{Plain}
use Rattle.print.specs.Print.{joint_of}
use Rattle.print.proofs.Showing.{each_more}
use Rattle.print.proofs.show_each.Goals as goal

pub loop-x-preserved : goal.loop-x-preserved
loop-x-preserved g c = λ plain.
    let e = g.T.Element in
    let so_far = c.loop-x.invariant plain in
    let before = c.in_ok-write_joint.ensures so_far.1.plain (refl {a = true}) in
    let shown = c.in_ok-show.ensures before.plain (refl {a = true}) in (
      so_far.0 ++ (joint_of e.joint c.loop-x.before Plain ++ e.text c.x-item.result),
      has_written_append _ _ _ _ _ _ so_far.1 (has_written_append _ _ _ _ _ _ before shown),
      each_more e.joint e.text _ _ _ _ _ _ c.loop-x-test.true c.x-item.is so_far.2,
    )
