use Rattle.std.proofs.Common.{[], ◌++◌, refl, ap, ◌∙◌, subst, sym}
use Rattle.std.proofs.Output.{has_written_append, has_written_of_eq, writes_in_calls_nil}
use Rattle.std.specs.Fn.{ComputesOnPairs}
use Rattle.std.specs.Slice.Iter.{chunk_by_callee, chunk_by_rest}
use Rattle.print.specs.declared.Last.TheVariants.{Nothing}
use Rattle.print.specs.Print.{equal_text, text_after}
use Rattle.print.proofs.Showing.{no_more, part_more}
use Rattle.print.proofs.show_groups.Goals as goal

pub loop-equal-init : goal.loop-equal-init
loop-equal-init g c =
    let is = c.into_iter-equal-iterator.ensures.into_iter_gives in (
      subst (λ s. ComputesOnPairs g.F.FnMut g.T.PartialEq.eq (chunk_by_callee s)) (sym is) c.requires.equal,
      λ plain. ([], record { wrote = writes_in_calls_nil _ _; plain = plain }, refl),
    )

pub loop-equal-preserved : goal.loop-equal-preserved
loop-equal-preserved g c =
    let e = g.T.Element in
    let cut = c.in-Some.ensures.steps in
    let shown = c.in_ok-last.ensures in
    let equal = cut.2 g.T.PartialEq.eq c.loop-equal.invariant.0 in (
      equal.0,
      λ plain.
          let so_far = c.loop-equal.invariant.1 plain in (
            so_far.0 ++ equal_text e.joint e.text c.loop-equal.last c.in-Some.equal.now,
            has_written_append _ _ _ _ _ _ so_far.1 (shown.1 so_far.1.plain),
            part_more g.T.PartialEq.eq g.met.T.Element.same e.joint e.text _ _ _ _ _ _ _ cut.0 cut.1 equal.1 shown.0 so_far.2,
          ),
    )

pub returns : goal.returns
returns g c = λ plain ok.
    let e = g.T.Element in
    let after = text_after g.T.PartialEq.eq e.joint e.text Nothing 0 in
    let so_far = c.loop-equal.invariant.1 plain in
    let is = ap (λ s. after (chunk_by_rest s)) c.into_iter-equal-iterator.ensures.into_iter_gives in
    has_written_of_eq _ _ _ _ _ (no_more g.T.PartialEq.eq e.joint e.text _ _ _ _ c.in-None.ensures.steps.0 so_far.2 ∙ is) so_far.1
