-- `spread_runs` meets its contract, by the laws of SpreadingRuns: a null run and a set run a turn.
-- Assumes nothing.
use native.Mathlib.Omega.{arith}
use Rattle.std.proofs.Common.{refl}
use Rattle.array.specs.Meaning.{order_of}
use Rattle.decode_words.proofs.SpreadingValues.{values_start, values_same, values_room, values_source, values_end, values_rest}
use Rattle.decode_cells.proofs.SpreadingRuns.{nulls_fit, nulls_laid, sets_some, sets_fit, sets_stored, sets_laid}
use Rattle.decode_cells.proofs.values.spread_runs.Goals as goal

pub loop-k-init : goal.loop-k-init
loop-k-init c = values_start c.requires (order_of c.args.order)

pub overflow_mul-nulls : goal.overflow_mul-nulls
overflow_mul-nulls c =
    let nulls = nulls_fit c.loop-k.invariant c.run_length-nulls.ensures in
    omega (arith, values_room c.loop-k.invariant c.run_length-nulls.result nulls, values_same c.loop-k.invariant)

pub fill_bytes-requires : goal.fill_bytes-requires
fill_bytes-requires c = values_room c.loop-k.invariant c.run_length-nulls.result (nulls_fit c.loop-k.invariant c.run_length-nulls.ensures)

pub overflow_add-i : goal.overflow_add-i
overflow_add-i c = omega (arith, nulls_fit c.loop-k.invariant c.run_length-nulls.ensures)

pub run_length-sets-requires : goal.run_length-sets-requires
run_length-sets-requires c = nulls_fit c.loop-k.invariant c.run_length-nulls.ensures

pub copy_cells-requires : goal.copy_cells-requires
copy_cells-requires c =
    let between = nulls_laid c.loop-k.invariant c.run_length-nulls.ensures c.fill_bytes.ensures in
    let sets = c.run_length-sets.result in
    (values_room between sets (sets_fit between c.run_length-sets.ensures), values_source between sets (sets_stored between c.run_length-sets.ensures))

pub overflow_add-i-in-loop-k : goal.overflow_add-i-in-loop-k
overflow_add-i-in-loop-k c =
    let between = nulls_laid c.loop-k.invariant c.run_length-nulls.ensures c.fill_bytes.ensures in
    omega (arith, sets_fit between c.run_length-sets.ensures)

pub overflow_add-k : goal.overflow_add-k
overflow_add-k c =
    let between = nulls_laid c.loop-k.invariant c.run_length-nulls.ensures c.fill_bytes.ensures in
    omega (arith, sets_stored between c.run_length-sets.ensures)

pub loop-k-smaller : goal.loop-k-smaller
loop-k-smaller c =
    let between = nulls_laid c.loop-k.invariant c.run_length-nulls.ensures c.fill_bytes.ensures in
    omega (
      arith,
      sets_fit between c.run_length-sets.ensures,
      sets_some c.loop-k.invariant c.run_length-nulls.ensures c.loop-k-test.true c.run_length-sets.ensures,
    )

pub loop-k-preserved : goal.loop-k-preserved
loop-k-preserved c =
    sets_laid (nulls_laid c.loop-k.invariant c.run_length-nulls.ensures c.fill_bytes.ensures) c.run_length-sets.ensures c.copy_cells.ensures

pub returns : goal.returns
returns c = values_end c.loop-k.invariant c.loop-k-test.false refl c.fill_bytes-2.ensures
