-- `merge` meets its contract: it is its steps (proofs/Steps).
-- Assumes nothing.
use lib.ListN.{length}
use Rattle.array.specs.Meaning.{kind_of, lent}
use Rattle.array.specs.Outcome.{content_array}
use Rattle.subset.specs.Subsets.{SubsetsOk}
use Rattle.array.specs.Subset.{subsets_of}
use Rattle.merge_rules.specs.Checks.{MergeChecked}
use Rattle.merge.proofs.Steps.{merge_checked, merge_stored}
use Rattle.merge.proofs.merge.Goals.{In_ok-cells}
use Rattle.merge.proofs.merge.Goals as goal

checked : (c : In_ok-cells) → let a = c.args in
    SubsetsOk a.shape.now a.subsets.now × MergeChecked (kind_of a.kind) a.shape.now (subsets_of (length a.shape.now) a.subsets.now) (lent a.array) c.in_ok-cells.cells
checked c =
    let a = c.args in
    merge_checked (kind_of a.kind) a.shape.now a.subsets.now (lent a.array) (content_array a.out_masks.now a.out_values.now a.out_offsets.now) c.in_ok-cells.cells c.in_ok-cells.ensures

pub new-requires : goal.new-requires
new-requires c = (checked (goal.at.new-requires c).In_ok-cells).0

pub store_covering-requires : goal.store_covering-requires
store_covering-requires c = rw (c.new.ensures.shape, c.new.ensures.numbers) (checked (goal.at.store_covering-requires c).In_ok-cells).1

pub returns : goal.returns
returns c =
    let a = c.args in
    merge_stored (kind_of a.kind) a.shape.now a.subsets.now (lent a.array) (content_array a.out_masks.now a.out_values.now a.out_offsets.now)
    c.in_ok-cells.cells c.in_ok-cells.ensures (rw (c.new.ensures.shape, c.new.ensures.numbers) at c.store_covering.ensures)
