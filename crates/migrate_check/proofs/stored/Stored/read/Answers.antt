-- `read` meets its contract: each form by its own reader (proofs/Walk).
-- Assumes nothing.
use Rattle.std.proofs.lemmas.Result.{err_from_is_err_and}
use mathlib.Core.Path.{◌≡◌, sym, ap, ◌∙◌}
use Prim.Native.Nat.{ℕ}
use Rattle.array.specs.Answer.{Answer, map_answer}
use Rattle.array.specs.Meaning.{told}
use Rattle.decode_interleaved.specs.Walk.{total_of}
use Rattle.migrate.specs.Live.{read_stored}
use Rattle.migrate_check.specs.Chunks.{stored_of}
use Rattle.migrate_check.specs.declared.stored.Stored as declared
use Rattle.migrate_check.proofs.Walk.{last_of, newer_read}
use Rattle.migrate_check.proofs.stored.Stored.read.Goals.{After-check_ragged}
use Rattle.migrate_check.proofs.stored.Stored.read.Goals as goal

by : {x y : declared.Stored} {a : Answer ℕ} (n : ℕ) → x ≡ y → a ≡ map_answer total_of (read_stored (stored_of y) n) → a ≡ map_answer total_of (read_stored (stored_of x) n)
by n e f = f ∙ sym (ap (λ (z : declared.Stored). map_answer total_of (read_stored (stored_of z) n)) e)

newer_by : (c : After-check_ragged) → map_answer last_of (told c.check_ragged.result) ≡ map_answer total_of (read_stored (stored_of c.args.self) c.args.cells)
newer_by c = by c.args.cells c.in-Newer.is (ap (map_answer last_of) c.check_ragged.ensures ∙ newer_read c.in-Newer.bytes.now c.args.cells)

pub returns-in_err-index-in-Newer : goal.returns-in_err-index-in-Newer
returns-in_err-index-in-Newer c =
    let p = err_from_is_err_and c.from_residual.result c.from_residual.ensures.1 in
    rw (p.1, p.2) (ap (λ r. map_answer last_of (told r)) (sym c.in_err-index-in-Newer.was) ∙ newer_by (goal.at.returns-in_err-index-in-Newer c).After-check_ragged)

pub returns-in-Older : goal.returns-in-Older
unfolding read_stored
returns-in-Older c = by c.args.cells c.in-Older.is c.read_cells.ensures

pub returns-in_ok-index-in-Newer : goal.returns-in_ok-index-in-Newer
returns-in_ok-index-in-Newer c =
    ap (λ r. map_answer last_of (told r)) (sym c.in_ok-index-in-Newer.was) ∙ newer_by (goal.at.returns-in_ok-index-in-Newer c).After-check_ragged
