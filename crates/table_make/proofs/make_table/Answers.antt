-- `make_table` meets its contract: each way it ends has a law in Making.
-- Assumes nothing.
use mathlib.Core.Path.{sym, ap, ◌∙◌, subst}
use Rattle.std.proofs.lemmas.Result.{err_from_is_err_and}
use Rattle.array.specs.Meaning.{kind_of, lent}
use Rattle.array.specs.Outcome.{content_array}
use Rattle.live_cells.specs.declared.Level.{Level}
use Rattle.encode_data.specs.Offsets.{Offsets}
use Rattle.table.specs.Meaning.{table_by}
use Rattle.table_make.specs.Rested.{rest_table, put_table}
use Rattle.table_make.proofs.Making.{held_offsets, make_kind, make_count, make_array, make_store, make_held, make_rest}
use Rattle.table_make.proofs.make_table.Goals as goal

pub returns-then-not-is_table_kind : goal.returns-then-not-is_table_kind
returns-then-not-is_table_kind c = make_kind (kind_of c.args.kind) c.args.cells (lent c.args.array) _ (sym c.if-not-is_table_kind.ensures)

pub returns-then-not-count_ok : goal.returns-then-not-count_ok
returns-then-not-count_ok c =
    make_count (kind_of c.args.kind) c.args.cells (lent c.args.array) _ (sym c.if-not-is_table_kind.ensures) (sym c.if-not-count_ok.ensures)

pub returns-in_err-check_array : goal.returns-in_err-check_array
returns-in_err-check_array c =
    let p = err_from_is_err_and c.from_residual.result c.from_residual.ensures.1 in
    rw (p.1, p.2) (make_array (kind_of c.args.kind) c.args.cells (lent c.args.array) _ (sym c.if-not-is_table_kind.ensures) (sym c.if-not-count_ok.ensures)
    c.check_array.ensures c.in_err-check_array.was)

pub returns-then-not-store_ok : goal.returns-then-not-store_ok
returns-then-not-store_ok c =
    make_store (kind_of c.args.kind) c.args.cells (lent c.args.array) _ (sym c.if-not-is_table_kind.ensures) (sym c.if-not-count_ok.ensures)
    c.check_array.ensures c.in_ok-check_array.was (sym c.if-not-store_ok.ensures)

pub invariant_of-places : goal.invariant_of-places
invariant_of-places c =
    let a = c.args in
    let held = make_held (kind_of a.kind) a.cells (lent a.array) (table_by a.out_masks.now a.out_starts.now a.out_lengths.now a.store.now)
    (sym c.if-not-is_table_kind.ensures) (sym c.if-not-count_ok.ensures) c.check_array.ensures c.in_ok-check_array.was in
    record { rising = subst (λ (l : Level). Offsets l.cells a.array.offsets.now) (sym c.counted.ensures) (held_offsets held) }

pub returns : goal.returns
returns c =
    let a = c.args in
    let out = table_by a.out_masks.now a.out_starts.now a.out_lengths.now a.store.now in
    c.make_valid.ensures
    ∙ ap (λ (l : Level). put_table (rest_table l.depth l.cells (content_array l.masks.now a.array.values.now a.array.offsets.now)) out) c.counted.ensures
    ∙ make_rest (kind_of a.kind) a.cells (lent a.array) out (sym c.if-not-is_table_kind.ensures) (sym c.if-not-count_ok.ensures)
    c.check_array.ensures c.in_ok-check_array.was (sym c.if-not-store_ok.ensures)
