-- `table_sums::sum_of` meets its contract: what the iterator sums up is the sum of the lengths.
-- Assumes nothing.
use Rattle.std.proofs.Common.{rules, arith, ◌≡◌, ◌<◌, ◌^◌, ◌∙◌, sym}
use Rattle.std.specs.List.{sum_by}
use Rattle.table.specs.Table.{most_store}
use Rattle.table.proofs.Each.{sum_is}
use Rattle.table_sums.proofs.sum_of.Goals as goal

pub sum-requires-clause-fits : goal.sum-requires-clause-fits
unfolding most_store
sum-requires-clause-fits c =
    let fits : sum_by (λ x. x) c.args.lengths.now < 2 ^ 64 = omega (arith, sum_is c.args.lengths.now, c.requires) in
    search rules

pub returns : goal.returns
returns c =
    let summed : c.sum.result ≡ sum_by (λ x. x) c.args.lengths.now = search rules in
    summed ∙ sym (sum_is c.args.lengths.now)
