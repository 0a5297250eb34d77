-- `cell_at` meets its contract: the sides from k on give a cell, and what is left of i counts in the others (proofs/Index).
-- Assumes nothing.
use native.Mathlib.Omega.{arith}
use Rattle.subset.proofs.Index.{cell_more, cell_ends, turn}
use Rattle.subset.proofs.cell_at.Goals as goal

pub nonzero_rem-row : goal.nonzero_rem-row
nonzero_rem-row c =
    (turn c.requires.0 c.requires.1 c.requires.2 c.loop-k.invariant (omega arith)).some_length

pub overflow_add-row : goal.overflow_add-row
overflow_add-row c =
    omega (arith, turn c.requires.0 c.requires.1 c.requires.2 c.loop-k.invariant (omega arith))

pub overflow_mul-cell : goal.overflow_mul-cell
overflow_mul-cell c =
    omega (arith, turn c.requires.0 c.requires.1 c.requires.2 c.loop-k.invariant (omega arith))

pub overflow_add-cell : goal.overflow_add-cell
overflow_add-cell c =
    omega (arith, turn c.requires.0 c.requires.1 c.requires.2 c.loop-k.invariant (omega arith))

pub nonzero_div-q : goal.nonzero_div-q
nonzero_div-q c =
    (turn c.requires.0 c.requires.1 c.requires.2 c.loop-k.invariant (omega arith)).some_length

pub overflow_mul-v : goal.overflow_mul-v
overflow_mul-v c =
    omega (arith, turn c.requires.0 c.requires.1 c.requires.2 c.loop-k.invariant (omega arith))

pub loop-k-preserved : goal.loop-k-preserved
loop-k-preserved c =
    cell_more c.args.shape.now c.args.starts.now c.args.lens.now c.args.i c.requires.1 c.requires.2
    c.loop-k.invariant (omega arith)

pub returns : goal.returns
returns c =
    cell_ends c.args.shape.now c.args.starts.now c.args.lens.now c.args.i c.requires.1 c.requires.2
    c.loop-k.k c.loop-k.invariant (omega arith)
