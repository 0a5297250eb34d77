-- The digits from the next on give what all give (proofs/Scanning).
use Rattle.std.proofs.Common.{sym, ◌∙◌}
use Rattle.text.proofs.Scanning.{number_none, number_some, number_more, number_stops, number-ends}
use Rattle.text.proofs.scan.read_number.Goals as goal

pub returns-then-is_empty : goal.returns-then-is_empty
returns-then-is_empty c = number_none _ c.if-is_empty.ensures

pub loop-b-init : goal.loop-b-init
loop-b-init c = number_some _ c.if-is_empty.ensures

pub returns-in_err-v : goal.returns-in_err-v
returns-in_err-v c =
    c.from_residual.ensures
    ∙ sym (c.loop-b.invariant ∙ number_stops _ _ _ c.loop-b-test.true (sym c.next_number.ensures ∙ c.in_err-v.was))

pub loop-b-preserved : goal.loop-b-preserved
loop-b-preserved c = c.loop-b.invariant ∙ number_more _ _ _ c.loop-b-test.true _ (sym c.next_number.ensures ∙ c.in_ok-v.was)

pub returns : goal.returns
returns c = sym (c.loop-b.invariant ∙ number-ends _ _ _ c.loop-b-test.false)
