-- `preview_sound` meets its contract: where the setting fits, what is there after it, and else its refusal.
-- Assumes nothing.
use mathlib.Core.Path.{refl, sym}
use Prim.Native.Nat.{◌+◌, ◌<◌, ◌^◌}
use native.Mathlib.Omega.{arith}
use lib.ListN.{length}
use Rattle.std.proofs.lemmas.Result.{err_from_is_err_and}
use Rattle.table.specs.Table.{Table}
use Rattle.table.specs.Meaning.{lent_table}
use Rattle.table.proofs.Order.{sum_fits}
use Rattle.table_preview.proofs.Outcomes.{fits_by, walkable, top_low, looked}
use Rattle.table_preview.proofs.preview_sound.Goals as goal

pub fit-requires : goal.fit-requires
fit-requires c =
    let table : Table = lent_table c.args.table in
    let ok = c.requires.0.table in
    sum_fits table (length c.args.table.starts.now) ok.placed ok.apart ok.lengths_fit

pub look_at-found-requires : goal.look_at-found-requires
look_at-found-requires c =
    let fits = sym c.in_ok-fitting.ensures in
    walkable c.requires.0 c.args.setting.cell c.args.setting.value.now c.requires.1 fits

pub unpacked_after-unpacked-requires : goal.unpacked_after-unpacked-requires
unpacked_after-unpacked-requires c =
    let fits = sym c.in_ok-fitting.ensures in
    let short : length c.args.order.now + 1 < 2 ^ 64 = omega arith in
    (omega (arith, c.look_at-found.ensures.few, short), top_low c.requires.0 c.args.setting.cell c.args.setting.value.now c.requires.1 fits c.look_at-found.ensures)

pub returns-in_err-fitting : goal.returns-in_err-fitting
returns-in_err-fitting c =
    let p = err_from_is_err_and c.from_residual.result c.from_residual.ensures.1 in
    rw (p.1, p.2) (fits_by c.requires.0 c.args.setting.cell c.args.setting.value.now c.requires.1 c.in_err-fitting.ensures)

pub returns : goal.returns
returns c =
    let fits = sym c.in_ok-fitting.ensures in
    looked c.requires.0 c.args.setting.cell c.args.setting.value.now c.requires.1 fits c.look_at-found.ensures refl c.unpacked_after-unpacked.ensures
