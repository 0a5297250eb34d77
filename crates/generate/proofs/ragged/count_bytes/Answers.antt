-- `ragged::count_bytes` meets its contract, by the laws of Making.
-- Assumes nothing.
use mathlib.Core.Path.{ap}
use Prim.Native.Nat.{ℕ}
use native.Mathlib.Omega.{arith}
use Rattle.load.specs.Generator.{Drew}
use Rattle.load.proofs.Drawn.{drawn_cell}
use Rattle.generate.specs.Cells.{lengthy}
use Rattle.generate.proofs.Making.{count_fits, count_more, count-ends, ragged_small}
use Rattle.generate.proofs.ragged.count_bytes.Goals as goal

pub draw_cell-value-requires : goal.draw_cell-value-requires
draw_cell-value-requires c =
    let l = c.args.load in
    (record { within = omega (arith, l.limited.shallow); small = omega (arith, l.limited.shallow) }, omega (arith, (drawn_cell lengthy l.depth c.loop.g.state).value.short))

pub overflow_add-sum : goal.overflow_add-sum
overflow_add-sum c =
    let fits = count_fits c.loop.invariant (omega arith) in
    omega (arith, fits, ap (λ (r : Drew ℕ). r.made) c.draw_cell-value.ensures.draws, ragged_small c.args.load.limited c.args.load.first.state)

pub loop-preserved : goal.loop-preserved
loop-preserved c =
    let drawn = c.draw_cell-value.ensures.draws in
    count_more c.loop.invariant (omega arith) (ap (λ (r : Drew ℕ). r.made) drawn) (ap (λ (r : Drew ℕ). r.state) drawn)

pub returns : goal.returns
returns c = count-ends c.loop.invariant (omega arith)
