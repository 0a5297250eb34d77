-- `read_with` meets its contract: the stages in their order (Stages), and then the cells.
-- Assumes nothing.
use mathlib.Core.Path.{sym}
use borrow.Author.Tests.{leb-true}
use Rattle.array.specs.Content.{Content}
use Rattle.array.specs.Outcome.{content_array}
use Rattle.table.specs.Meaning.{lent_table}
use Rattle.table_read.proofs.Stages.{reads_well, by_table, by_store, by_cells}
use Rattle.table_read.proofs.read_with.Goals as goal

pub returns-then-not-store_ok : goal.returns-then-not-store_ok
returns-then-not-store_ok c =
    let outputs : Content = content_array c.args.out_masks.now c.args.out_values.now c.args.out_offsets.now in
    by_store c.args.shape (lent_table c.args.table) outputs c.in-Some.ensures.sound (sym c.if-not-store_ok.ensures)

pub read_checked-requires : goal.read_checked-requires
read_checked-requires c = reads_well c.in-Some.ensures.sound (leb-true _ _ (sym c.if-not-store_ok.ensures))

pub returns-in_default : goal.returns-in_default
returns-in_default c =
    let outputs : Content = content_array c.args.out_masks.now c.args.out_values.now c.args.out_offsets.now in
    by_table c.args.shape (lent_table c.args.table) outputs c.in_default.ensures

pub returns : goal.returns
returns c =
    let outputs : Content = content_array c.args.out_masks.now c.args.out_values.now c.args.out_offsets.now in
    rw (by_cells c.args.shape (lent_table c.args.table) outputs c.in-Some.ensures.sound (sym c.if-not-store_ok.ensures)) c.read_checked.ensures
