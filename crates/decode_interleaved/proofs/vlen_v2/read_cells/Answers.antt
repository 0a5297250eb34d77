-- `interleaved::vlen_v2::read_cells` meets its contract, by the laws of Outcomes: one for each refusal, and one for the cells that the walk found.
-- Assumes nothing.
use Rattle.std.proofs.lemmas.Result.{err_from_is_err_and}
use mathlib.Core.Path.{sym, ◌∙◌}
use native.Mathlib.Omega.{arith}
use Rattle.array.specs.Limits.{most_bytes}
use Rattle.decode_interleaved.proofs.Outcomes.{other_count, past_end, too_large, all_found}
use Rattle.decode_interleaved.proofs.vlen_v2.read_cells.Goals as goal

pub returns-then-le4_at-cells : goal.returns-then-le4_at-cells
returns-then-le4_at-cells c = other_count _ _ (omega arith) (λ e. c.if-le4_at-cells.true (c.le4_at.ensures ∙ e))

pub returns-in_err-sum : goal.returns-in_err-sum
returns-in_err-sum c =
    let p = err_from_is_err_and c.from_residual.result c.from_residual.ensures.1 in
    rw (p.1, p.2) (past_end _ _ (omega arith) (sym c.le4_at.ensures ∙ c.if-le4_at-cells.false) _ c.in_err-sum.ensures)

pub returns-then-sum-gt-MOST_BYTES : goal.returns-then-sum-gt-MOST_BYTES
unfolding most_bytes
returns-then-sum-gt-MOST_BYTES c =
    too_large _ _ (omega arith) (sym c.le4_at.ensures ∙ c.if-le4_at-cells.false) _ c.in_ok-sum.ensures c.if-sum-gt-MOST_BYTES.true

pub returns : goal.returns
unfolding most_bytes
returns c = all_found _ _ (omega arith) (sym c.le4_at.ensures ∙ c.if-le4_at-cells.false) _ c.in_ok-sum.ensures c.if-sum-gt-MOST_BYTES.false
