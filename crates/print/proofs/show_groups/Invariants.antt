use Rattle.std.proofs.Common.{◌≡◌, ℕ, List, ◌++◌}
use Rattle.std.specs.Fmt.{HasWritten, IsPlainFormatter}
use Rattle.std.specs.Fn.{ComputesOnPairs}
use Rattle.std.specs.Slice.Iter.{chunk_by_rest, chunk_by_callee}
use Rattle.print.specs.declared.Last.TheVariants.{Nothing}
use Rattle.print.specs.Print.{text_after}
use Rattle.print.proofs.show_groups.Given as goal

abbrev pub invariant-loop-equal : goal.invariant-loop-equal
invariant-loop-equal g l =
    let e = g.T.Element in
    let after = text_after g.T.PartialEq.eq e.joint e.text in
    ComputesOnPairs g.F.FnMut g.T.PartialEq.eq (chunk_by_callee l.equal-iterator)
    × (IsPlainFormatter l.fn.f
    → (done : List ℕ) × HasWritten g.W.Write.write_str_gives l.fn.f done l.f
    × (done ++ after l.last 0 (chunk_by_rest l.equal-iterator) ≡ after Nothing 0 (chunk_by_rest l.initial.equal-iterator)))
