-- `begin_of` meets its contract: few cells.
-- Assumes nothing.
use native.Mathlib.Omega.{arith}
use Rattle.array.specs.Limits.{most_cells}
use Rattle.migrate_cells.proofs.cell.begin_of.Goals as goal

pub overflow_mul-result : goal.overflow_mul-result
unfolding most_cells
overflow_mul-result c = omega arith

pub overflow_add-result : goal.overflow_add-result
unfolding most_cells
overflow_add-result c = omega arith
