-- `interleaved::vlen_v2::write_cells` meets its contract, by the laws of Outcomes.
-- Assumes nothing.
use native.Mathlib.Omega.{arith}
use Rattle.array.specs.Limits.{most_cells}
use Rattle.array.specs.Outcome.{content_ragged}
use Rattle.decode_interleaved.proofs.Outcomes.{values_short, offsets_short, all_written, none_written}
use Rattle.decode_interleaved.proofs.vlen_v2.write_cells.Goals as goal

pub returns-then-values-sum : goal.returns-then-values-sum
returns-then-values-sum c = values_short c.requires _ c.if-values-sum.true

pub overflow_add-count : goal.overflow_add-count
unfolding most_cells
overflow_add-count c = omega (arith, c.requires.few)

pub returns-then-offsets-count : goal.returns-then-offsets-count
returns-then-offsets-count c = offsets_short c.requires _ c.if-values-sum.false c.if-offsets-count.true

pub returns-then-sum-eq0 : goal.returns-then-sum-eq0
returns-then-sum-eq0 c =
    none_written c.requires (content_ragged c.args.values.now c.args.offsets.now) c.if-values-sum.false
    c.if-sum-eq0.true c.if-offsets-count.false c.fill_numbers.ensures

pub returns : goal.returns
returns c =
    all_written c.requires (content_ragged c.args.values.now c.args.offsets.now) c.if-values-sum.false c.if-offsets-count.false
    c.copy_cells.ensures.joins c.copy_cells.ensures.places
