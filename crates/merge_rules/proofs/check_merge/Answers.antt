-- `check_merge` meets its contract: each refusal in its order (proofs/Passing).
-- Assumes nothing.
use mathlib.Core.Path.{sym}
use Rattle.valid.proofs.ShapeLaws.{counted}
use Rattle.merge_rules.proofs.Passing.{tested_subsets}
use Rattle.merge_rules.proofs.check_merge.Goals as goal

pub new-requires : goal.new-requires
new-requires c = tested_subsets _ _ (counted _ _ c.in_ok-cells.ensures).passes (sym c.if-not-subsets_fit.ensures)
