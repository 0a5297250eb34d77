use Rattle.std.proofs.Common.{◌≡◌, ℕ, List, ◌++◌, drop}
use Rattle.std.specs.Fmt.{HasWritten, IsPlainFormatter}
use Rattle.print.specs.declared.Last.TheVariants.{Plain}
use Rattle.print.specs.Print.{each_text, joint_of}
use Rattle.print.proofs.show_each.Given as goal

abbrev pub invariant-loop-x : goal.invariant-loop-x
invariant-loop-x g l =
    let e = g.T.Element in
    IsPlainFormatter l.fn.f
    → (done : List ℕ) × HasWritten g.W.Write.write_str_gives l.fn.f done l.f
    × (done ++ each_text e.joint e.text (joint_of e.joint l.before Plain) (drop l.x-index l.list)
    ≡ each_text e.joint e.text (joint_of e.joint l.initial.before Plain) l.fn.list)
