-- `index_length` meets its contract: few cells, and a width of 8 at most.
-- Assumes nothing.
use mathlib.Core.Path.{ap}
use Prim.Native.Nat.{ℕ, ◌*◌}
use native.Mathlib.Nat.{mul-le-mul}
use native.Mathlib.Omega.{arith}
use Rattle.array.specs.Limits.{most_cells}
use Rattle.stored_index.proofs.IndexLaws.{width_most}
use Rattle.stored_index.proofs.index_length.Goals as goal

pub overflow_mul-result : goal.overflow_mul-result
unfolding most_cells
overflow_mul-result c =
    let args = c.args in
    omega (arith, mul-le-mul c.requires (width_most args.width), ap (λ (x : ℕ). args.n * x) c.width_bytes-w.ensures)

pub overflow_add-result : goal.overflow_add-result
unfolding most_cells
overflow_add-result c =
    let args = c.args in
    let width_bytes = c.width_bytes-w in
    omega (arith, mul-le-mul c.requires (width_most args.width), ap (λ (x : ℕ). args.n * x) width_bytes.ensures, width_most args.width, width_bytes.ensures)
