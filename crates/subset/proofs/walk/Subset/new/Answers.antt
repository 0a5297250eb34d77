-- `new` of a subset meets its contract: the numbers are split in starts and lengths (proofs/Index).
-- Assumes nothing.
use mathlib.Core.Path.{sym, subst}
use Rattle.array.specs.Rows.{FewCells}
use Rattle.array.proofs.SubsetLists.{within_numbers}
use Rattle.subset.proofs.Index.{few_within}
use Rattle.subset.proofs.walk.Subset.new.Goals as goal

pub volume_of-count-requires : goal.volume_of-count-requires
volume_of-count-requires c =
    let numbers = within_numbers c.args.shape.now c.args.numbers.now c.requires.1 in
    subst FewCells (sym c.split_at.ensures.back) (few_within _ _ c.requires.0 numbers)
