-- `valid::array_bytes::content_fits` meets its contract: each return by its law of CheckLaws.
-- Assumes nothing.
use native.Mathlib.Omega.{arith}
use Rattle.array.specs.Limits.{most_cells}
use Rattle.array.specs.Content.{Content}
use Rattle.array.specs.Meaning.{lent, width_of, place_of}
use Rattle.valid.proofs.CheckLaws.{small_product, by_form, offsets_rise}
use Rattle.valid.proofs.array_bytes.content_fits.Goals as goal

pub overflow_mul-depth : goal.overflow_mul-depth
overflow_mul-depth c = omega (arith, small_product c.args.kind.depth c.args.cells (omega arith) c.requires)

pub overflow_mul-cells : goal.overflow_mul-cells
overflow_mul-cells c = omega (arith, small_product c.in-Fixed.size c.args.cells (omega arith) c.requires)

pub overflow_add-cells : goal.overflow_add-cells
unfolding most_cells
overflow_add-cells c = omega arith

pub returns-else-not-rise_from_zero : goal.returns-else-not-rise_from_zero
returns-else-not-rise_from_zero c =
    let content : Content = lent c.args.array in
    by_form c.args.kind c.args.cells content c.in-Ragged.is c.if-array-depth.false
    (offsets_rise c.args.cells content (width_of c.in-Ragged.field-0) (place_of c.in-Ragged.field-1) c.if-array-cells-2.false c.rise_from_zero.ensures c.if-not-rise_from_zero.false-raw)
