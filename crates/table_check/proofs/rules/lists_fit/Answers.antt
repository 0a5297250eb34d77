-- `table_check::rules::lists_fit` meets its contract: each return by its law of Stages.
-- Assumes nothing.
use native.Mathlib.Omega.{arith}
use Rattle.valid.proofs.CheckLaws.{small_product}
use Rattle.table_check.proofs.rules.lists_fit.Goals as goal

pub overflow_mul-depth : goal.overflow_mul-depth
overflow_mul-depth c = omega (arith, small_product c.args.depth c.args.n (omega arith) c.requires.0)
