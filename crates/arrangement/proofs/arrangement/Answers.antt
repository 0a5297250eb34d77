-- `arrangement` meets its contract, by the laws of Stages.
use Rattle.std.proofs.Common.{sym, ◌∙◌}
use Rattle.std.proofs.lemmas.Result.{err_from_is_err_and}
use Rattle.array.specs.Outcome.{content_array}
use Rattle.arrangement.proofs.Stages.{not_small, from_states}
use Rattle.arrangement.proofs.arrangement.Goals as goal

pub returns-then-not-is_small : goal.returns-then-not-is_small
returns-then-not-is_small c =
    let a = c.args in
    not_small a.depth a.cells a.number (content_array a.masks.now a.values.now a.offsets.now) (sym c.if-not-is_small.ensures)

pub returns-in_err-states : goal.returns-in_err-states
returns-in_err-states c =
    let a = c.args in
    let p = err_from_is_err_and c.from_residual.result c.from_residual.ensures.1 in
    rw (p.1, p.2) (from_states a.depth a.cells a.number (content_array a.masks.now a.values.now a.offsets.now) (sym c.if-not-is_small.ensures) c.in_err-states.ensures)

pub returns : goal.returns
returns c =
    let a = c.args in
    c.put_arrangement.ensures
    ∙ from_states a.depth a.cells a.number (content_array a.masks.now a.values.now a.offsets.now) (sym c.if-not-is_small.ensures) c.in_ok-states.ensures
