-- `covers` meets its contract: the subsets before those that are left are marked, and as many cells as they have are taken off (proofs/Marking, proofs/Once).
-- Assumes nothing.
use mathlib.Core.Path.{refl, sym, ap, ◌∙◌}
use native.Mathlib.Omega.{arith}
use Rattle.subset.proofs.Steps.{PartStep, part_step}
use Rattle.merge_cover.specs.Marks.{marking}
use Rattle.merge_cover.proofs.BitLaws.{none_marked}
use Rattle.merge_cover.proofs.Marking.{cover_begins, cover_more, cover_over, cover_beyond}
use Rattle.merge_cover.proofs.covers.Goals.{In-Some}
use Rattle.merge_cover.proofs.covers.Goals as goal

turn : (c : In-Some) → PartStep c.args.subsets.shape.now c.loop-part.part-iterator c.in-Some.part c.next.new.self
turn c = part_step c.args.subsets.shape.now c.loop-part.part-iterator c.loop-part.invariant.1 c.in-Some.part c.next.new.self c.in-Some.ensures.steps

pub loop-part-init : goal.loop-part-init
loop-part-init c =
    rw (c.into_iter-part-iterator.ensures.into_iter_gives, c.parts-part-items.ensures)
    (cover_begins c.args.subsets.each (none_marked c.no_marks-words.ensures) c.volume_of-left.ensures, refl)

pub returns-then-left-part : goal.returns-then-left-part
returns-then-left-part c =
    let t = turn (goal.at.returns-then-left-part c).In-Some in
    sym (cover_beyond c.args.subsets.each c.loop-part.invariant.0 t.next t.asked c.if-left-part.true)

pub returns-then-not-mark_subset : goal.returns-then-not-mark_subset
returns-then-not-mark_subset c =
    let t = turn (goal.at.returns-then-not-mark_subset c).In-Some in
    sym (cover_over c.args.subsets.each c.loop-part.invariant.0 t.next t.asked (c.if-not-mark_subset.ensures ∙ ap (marking _) t.cells))

pub loop-part-preserved : goal.loop-part-preserved
loop-part-preserved c =
    let t = turn (goal.at.loop-part-preserved c).In-Some in
    (cover_more c.args.subsets.each c.loop-part.invariant.0 t.next t.asked (c.if-not-mark_subset.ensures ∙ ap (marking _) t.cells) (omega arith), t.same)
