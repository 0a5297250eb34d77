-- `read_table` meets its contract: the kind and the count (Stages), and then the table with room for its order.
-- Assumes nothing.
use Rattle.std.proofs.lemmas.Result.{err_from_is_err_and}
use Rattle.array.specs.Content.{Content}
use Rattle.array.specs.Outcome.{content_array}
use Rattle.array.specs.Meaning.{kind_of}
use Rattle.table.specs.Meaning.{lent_table}
use Rattle.table_read.proofs.Stages.{unshaped}
use Rattle.table_read.proofs.read_table.Goals as goal

pub returns-in_err-shape : goal.returns-in_err-shape
returns-in_err-shape c =
    let p = err_from_is_err_and c.from_residual.result c.from_residual.ensures.1 in
    let outputs : Content = content_array c.args.out_masks.now c.args.out_values.now c.args.out_offsets.now in
    rw (p.1, p.2) (unshaped (kind_of c.args.kind) c.args.cells (lent_table c.args.table) outputs c.in_err-shape.ensures)
