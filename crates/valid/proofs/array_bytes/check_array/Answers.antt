-- `valid::array_bytes::check_array` meets its contract: each return by its law of CheckLaws.
-- Assumes nothing.
use Rattle.array.specs.Limits.{most_bytes}
use Rattle.array.specs.Content.{Content}
use Rattle.array.specs.Meaning.{kind_of, lent}
use Rattle.valid.proofs.CheckLaws.{check_five, check_gives}
use Rattle.valid.proofs.array_bytes.check_array.Goals as goal

pub returns-then-array-gt-MOST_BYTES : goal.returns-then-array-gt-MOST_BYTES
unfolding most_bytes
returns-then-array-gt-MOST_BYTES c =
    let content : Content = lent c.args.array in
    let f = c.keeps_rules in
    check_five (kind_of c.args.kind) c.args.cells content f.ensures c.if-not-keeps_rules.false-raw c.if-array-gt-MOST_BYTES.true

pub returns : goal.returns
unfolding most_bytes
returns c =
    let content : Content = lent c.args.array in
    let f = c.keeps_rules in
    check_gives (kind_of c.args.kind) c.args.cells content f.ensures c.if-not-keeps_rules.false-raw c.if-array-gt-MOST_BYTES.false
