-- `lists_fit` meets its contract: each step of the test (proofs/Lists).
-- Assumes nothing.
use mathlib.Core.Path.{sym, ◌∙◌}
use native.Mathlib.Omega.{arith}
use Rattle.migrate_check.specs.Meaning.{live_of}
use Rattle.migrate_check.proofs.Lists.{chunk_count_is, lists_break, lists_by, left_there}
use Rattle.migrate_check.proofs.lists_fit.Goals as goal

pub returns-then-table-chunks : goal.returns-then-table-chunks
returns-then-table-chunks c =
    let t = live_of c.args.table c.args.moved c.args.moved_lengths.now c.args.area.now in
    lists_break t (λ p. c.if-table-chunks.true (p.old_count ∙ chunk_count_is t))

pub returns : goal.returns
returns c =
    let t = live_of c.args.table c.args.moved c.args.moved_lengths.now c.args.area.now in
    let chunks = chunk_count_is t in
    c.is_some.ensures ∙ left_there _ _ _ c.left_behind-2.ensures
    ∙ lists_by t (c.if-table-chunks.false ∙ sym chunks) (c.if-moved_lengths-chunks.false ∙ sym chunks) (omega (arith, c.in-Some.ensures)) (omega (arith, chunks))
