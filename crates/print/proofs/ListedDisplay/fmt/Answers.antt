use Rattle.std.proofs.Common.{rules, of_calls}
use Rattle.std.proofs.lemmas.Fn.{always_returns_same}
use Rattle.print.proofs.ListedDisplay.fmt.Goals as goal

pub show_groups-requires-clause-equal : goal.show_groups-requires-clause-equal
show_groups-requires-clause-equal g c = always_returns_same _ _ _ (λ a r f k. search (rules, of_calls))
