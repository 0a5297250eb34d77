-- `migrate_extract` meets its contract: one law for each answer (proofs/Stages).
-- Assumes nothing.
use Rattle.std.proofs.lemmas.Result.{err_from_is_err_and}
use mathlib.Core.Path.{ap, ◌∙◌}
use lib.ListN.{length}
use Rattle.array.specs.Outcome.{content_ragged}
use Rattle.decode_interleaved.specs.Walk.{found_answer}
use Rattle.array.specs.Cells.{Value}
use Rattle.array.specs.Buffers.{ragged_lengths_of, ragged_outcome}
use mathlib.Core.List.{List}
use Rattle.migrate_check.specs.Chunks.{chunks_in}
use Rattle.migrate_check.specs.Meaning.{live_of}
use Rattle.migrate_extract.proofs.Stages.{not_checked, Passed, table_passed, shaped, chunked, lists, numbers, not_few, cut_given, Tied, walked_read, walked_cut, cut_of_is, few_are}
use Rattle.migrate_extract.proofs.migrate_extract.Goals.{In_ok-check_table, After-new-stored}
use Rattle.migrate_extract.proofs.migrate_extract.Goals as goal

ok : (c : In_ok-check_table) → Passed (live_of c.args.table c.args.moved c.args.moved_lengths.now c.args.area.now) c.args.subset.now
ok c = table_passed _ _ (rw c.subset_fits-within.ensures at c.in_ok-check_table.ensures)

pub returns-in_err-check_table : goal.returns-in_err-check_table
returns-in_err-check_table c =
    let p = err_from_is_err_and c.from_residual.result c.from_residual.ensures.1 in
    rw (p.1, p.2) (not_checked _ _ _ _ (rw c.subset_fits-within.ensures at c.in_err-check_table.ensures))

pub new-asked-requires : goal.new-asked-requires
new-asked-requires c = let p = ok (goal.at.new-asked-requires c).In_ok-check_table in (shaped p, numbers p)

pub new-subsets-requires : goal.new-subsets-requires
new-subsets-requires c = chunked (ok (goal.at.new-subsets-requires c).In_ok-check_table)

pub new-stored-requires : goal.new-stored-requires
new-stored-requires c = lists (ok (goal.at.new-stored-requires c).In_ok-check_table)

tied : (c : After-new-stored) → Tied (live_of c.args.table c.args.moved c.args.moved_lengths.now c.args.area.now) c.args.subset.now c.new-asked.result c.new-subsets.result
    (chunks_in c.new-stored.result)
tied c =
    let a = c.new-asked.ensures in
    let s = c.new-subsets.ensures in
    record { shape = a.shape; said = a.said; shapes = s.shape; numbers = s.numbers; strings = c.new-stored.ensures.all }

pub count_bytes-requires : goal.count_bytes-requires
count_bytes-requires c =
    let g = goal.at.count_bytes-requires c in
    walked_read (ok g.In_ok-check_table) (tied g.After-new-stored) (ap length c.new-stored.ensures.counted)

pub returns-in_err-sum : goal.returns-in_err-sum
returns-in_err-sum c =
    let g = goal.at.returns-in_err-sum c in
    let q = ok g.In_ok-check_table in
    let p = err_from_is_err_and c.from_residual-in_err-sum.result c.from_residual-in_err-sum.ensures.1 in
    rw (p.1, p.2) (not_few q (content_ragged c.args.values.now c.args.offsets.now) _ (c.in_err-sum.ensures ∙ few_are q (tied g.After-new-stored)))

pub write_cut-requires : goal.write_cut-requires
write_cut-requires c =
    let g = goal.at.write_cut-requires c in
    walked_cut (ok g.In_ok-check_table) (tied g.After-new-stored) (ap length c.new-stored.ensures.counted) c.in_ok-sum.ensures

pub returns : goal.returns
returns c =
    let g = goal.at.returns c in
    let q = ok g.In_ok-check_table in
    let out = content_ragged c.args.values.now c.args.offsets.now in
    cut_given q out (c.in_ok-sum.ensures ∙ few_are q (tied g.After-new-stored))
    (c.write_cut.ensures ∙ ap (λ (vs : List Value). ragged_outcome (found_answer vs (ragged_lengths_of out)) out) (cut_of_is q (tied g.After-new-stored)))
