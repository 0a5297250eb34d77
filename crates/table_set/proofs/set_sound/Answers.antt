-- `set_sound` meets its contract: where the setting fits it is made, and else refused.
-- Assumes nothing.
use mathlib.Core.Path.{sym, ap, ◌∙◌}
use lib.ListN.{length}
use Rattle.std.proofs.lemmas.Result.{err_from_is_err_and}
use Rattle.array.specs.Answer.{gives}
use Rattle.table.specs.Table.{Table}
use Rattle.table.specs.Meaning.{table_by}
use Rattle.table.proofs.Order.{sum_fits}
use Rattle.table_setting.proofs.Judging.{ready}
use Rattle.table_set.specs.Settle.{left}
use Rattle.table_set.proofs.Outcomes.{fits_by}
use Rattle.table_set.proofs.set_sound.Goals as goal

pub fit-requires : goal.fit-requires
fit-requires c =
    let table : Table = table_by c.args.masks.now c.args.starts.now c.args.lengths.now c.args.store.now in
    let ok = c.requires.table in
    sum_fits table (length c.args.starts.now) ok.placed ok.apart ok.lengths_fit

pub returns-in_err-fitting : goal.returns-in_err-fitting
returns-in_err-fitting c =
    let p = err_from_is_err_and c.from_residual.result c.from_residual.ensures.1 in
    rw (p.1, p.2) (fits_by c.requires c.args.setting.cell c.args.setting.value.now c.in_err-fitting.ensures)

pub settle-requires : goal.settle-requires
settle-requires c = ready c.requires c.args.setting.cell c.args.setting.value.now (sym c.in_ok-fitting.ensures)

pub returns : goal.returns
returns c =
    let table : Table = table_by c.args.masks.now c.args.starts.now c.args.lengths.now c.args.store.now in
    ap (λ (u : Table). left (gives u) table) c.settle.ensures ∙ fits_by c.requires c.args.setting.cell c.args.setting.value.now c.in_ok-fitting.ensures
