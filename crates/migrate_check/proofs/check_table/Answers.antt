-- `check_table` meets its contract: each refusal in its order (proofs/Stages).
-- Assumes nothing.
use Rattle.std.proofs.lemmas.Result.{err_from_is_err_and}
use mathlib.Core.Path.{◌≡◌, sym}
use mathlib.Core.Bool.{true}
use Rattle.array.specs.Shape.{shape_test}
use Rattle.valid.proofs.ShapeLaws.{counted}
use Rattle.migrate_check.specs.Meaning.{live_of}
use Rattle.migrate_check.proofs.Stages.{no_shape, no_subsets, good_subsets, not_asked, bad_lists, not_covered, all_read}
use Rattle.migrate_check.proofs.check_table.Goals.{In_ok-shape_cells}
use Rattle.migrate_check.proofs.check_table.Goals as goal

shaped : (c : In_ok-shape_cells) → shape_test c.args.table.shape.now ≡ true
shaped c = (counted _ _ c.in_ok-shape_cells.ensures).passes

pub returns-in_err-shape_cells : goal.returns-in_err-shape_cells
returns-in_err-shape_cells c =
    let t = live_of c.args.table c.args.moved c.args.moved_lengths.now c.args.area.now in
    let p = err_from_is_err_and c.from_residual.result c.from_residual.ensures.1 in
    rw (p.1, p.2) (no_shape t c.args.asked c.in_err-shape_cells.ensures)

pub returns-then-not-subsets_fit : goal.returns-then-not-subsets_fit
returns-then-not-subsets_fit c =
    let t = live_of c.args.table c.args.moved c.args.moved_lengths.now c.args.area.now in
    no_subsets t c.args.asked (shaped (goal.at.returns-then-not-subsets_fit c).In_ok-shape_cells) (sym c.if-not-subsets_fit.ensures)

pub returns-then-not-asked : goal.returns-then-not-asked
returns-then-not-asked c =
    let t = live_of c.args.table c.args.moved c.args.moved_lengths.now c.args.area.now in
    not_asked t c.args.asked (shaped (goal.at.returns-then-not-asked c).In_ok-shape_cells) (sym c.if-not-subsets_fit.ensures) c.if-not-asked.true

pub returns-then-not-lists_fit : goal.returns-then-not-lists_fit
returns-then-not-lists_fit c =
    let t = live_of c.args.table c.args.moved c.args.moved_lengths.now c.args.area.now in
    bad_lists t c.args.asked (shaped (goal.at.returns-then-not-lists_fit c).In_ok-shape_cells) (sym c.if-not-subsets_fit.ensures) c.if-not-asked.false
    (sym c.if-not-lists_fit.ensures)

pub new-subsets-requires : goal.new-subsets-requires
new-subsets-requires c =
    let t = live_of c.args.table c.args.moved c.args.moved_lengths.now c.args.area.now in
    good_subsets t c.args.asked (shaped (goal.at.new-subsets-requires c).In_ok-shape_cells) (sym c.if-not-subsets_fit.ensures)

pub returns-then-not-covers : goal.returns-then-not-covers
returns-then-not-covers c =
    let t = live_of c.args.table c.args.moved c.args.moved_lengths.now c.args.area.now in
    not_covered t c.args.asked (shaped (goal.at.returns-then-not-covers c).In_ok-shape_cells) (sym c.if-not-subsets_fit.ensures) c.if-not-asked.false
    (sym c.if-not-lists_fit.ensures) (rw (c.new-subsets.ensures.shape, c.new-subsets.ensures.numbers) at (sym c.if-not-covers.ensures))

pub returns : goal.returns
returns c =
    let t = live_of c.args.table c.args.moved c.args.moved_lengths.now c.args.area.now in
    let sh = c.new-subsets.ensures.shape in
    let ns = c.new-subsets.ensures.numbers in
    all_read t c.args.asked (shaped (goal.at.returns c).In_ok-shape_cells) (sym c.if-not-subsets_fit.ensures) c.if-not-asked.false (sym c.if-not-lists_fit.ensures)
    (rw (sh, ns) at (sym c.if-not-covers.ensures)) (rw (sh, ns, c.new-stored.ensures.all) at c.check_chunks.ensures)
