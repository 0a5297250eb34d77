-- `read_checked` meets its contract: which output is too short, or that all was stored.
-- Assumes nothing.
use mathlib.Core.Path.{refl, sym, ◌∙◌}
use Rattle.array.specs.Content.{Content}
use Rattle.array.specs.Outcome.{content_array}
use Rattle.array.proofs.Putting.{no_values, no_offsets, put}
use Rattle.table.specs.Meaning.{lent_table}
use Rattle.table_read.specs.Read.{read_by}
use Rattle.table_read.proofs.Reading.{values_long, offsets_long, whole_copied}
use Rattle.table_read.proofs.read_checked.Goals as goal

pub returns-then-out_values-bytes : goal.returns-then-out_values-bytes
returns-then-out_values-bytes c =
    let content : Content = read_by c.args.cells (lent_table c.args.table) in
    let outputs : Content = content_array c.args.out_masks.now c.args.out_values.now c.args.out_offsets.now in
    no_values content outputs _ (values_long c.requires.cells ∙ sym c.sum_of-bytes.ensures) c.if-out_values-bytes.true

pub returns-then-out_offsets-count : goal.returns-then-out_offsets-count
returns-then-out_offsets-count c =
    let content : Content = read_by c.args.cells (lent_table c.args.table) in
    let outputs : Content = content_array c.args.out_masks.now c.args.out_values.now c.args.out_offsets.now in
    no_offsets content outputs _ (offsets_long c.args.cells (lent_table c.args.table)) c.if-out_offsets-count.true

pub returns : goal.returns
returns c =
    let content : Content = read_by c.args.cells (lent_table c.args.table) in
    let outputs : Content = content_array c.args.out_masks.now c.args.out_values.now c.args.out_offsets.now in
    put content outputs _ _ _ refl (values_long c.requires.cells ∙ sym c.sum_of-bytes.ensures) (offsets_long c.args.cells (lent_table c.args.table))
    c.if-out_masks-planes.false c.if-out_values-bytes.false c.if-out_offsets-count.false _ _ _
    (whole_copied c.args.table.masks.now c.args.out_masks.now c.copy_many.ensures)
    c.copy_values.ensures.values c.copy_values.ensures.offsets
