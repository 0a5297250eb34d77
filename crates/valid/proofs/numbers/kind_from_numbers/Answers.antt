-- `valid::numbers::kind_from_numbers`: the kind with masks of bytes by its callee, its mask form by another.
-- Assumes nothing.
use Rattle.std.proofs.Common.{rules}
use Rattle.valid.specs.Numbers.{numbered_kind}
use Rattle.valid.proofs.numbers.kind_from_numbers.Goals as goal

pub returns-in_err-kind : goal.returns-in_err-kind
unfolding numbered_kind
returns-in_err-kind c = search rules

pub returns : goal.returns
unfolding numbered_kind
returns c = search rules
