-- The digits from the next on give what all give.
use Rattle.std.proofs.Common.{drop, ◌≡◌}
use Rattle.text.specs.Scan.{number_of, number_from}
use Rattle.text.proofs.scan.read_number.Given as goal

abbrev pub invariant-loop-b : goal.invariant-loop-b
invariant-loop-b l = number_of l.text ≡ number_from l.v (drop l.b-index l.text)
