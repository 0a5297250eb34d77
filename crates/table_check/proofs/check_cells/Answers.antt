-- `table_check::check_cells` meets its contract, by the laws of Checking.
-- Assumes nothing.
use mathlib.Core.Path.{refl, sym}
use Prim.Native.Nat.{◌<◌, ◌^◌}
use native.Mathlib.Omega.{arith}
use lib.ListN.{length}
use Rattle.table.specs.Meaning.{lent_table}
use Rattle.table_check.proofs.Checking.{cells_broken, all_reached, cells_overlap, cells_apart}
use Rattle.table_check.proofs.check_cells.Goals as goal

pub returns-then-not-keep_rules : goal.returns-then-not-keep_rules
returns-then-not-keep_rules c = cells_broken c.args.depth c.args.n (lent_table c.args.table) (sym c.if-not-keep_rules.ensures)

pub follow-requires : goal.follow-requires
follow-requires c =
    let short : length c.args.table.store.now < 2 ^ 64 = omega arith in
    all_reached c.args.depth c.args.n (lent_table c.args.table) (sym c.if-not-keep_rules.ensures) c.lie-count.ensures.lies short

pub returns-then-not-follow : goal.returns-then-not-follow
returns-then-not-follow c =
    cells_overlap c.args.depth c.args.n (lent_table c.args.table) (sym c.if-not-keep_rules.ensures) c.lie-count.ensures.lies (sym c.if-not-follow.ensures)

pub returns : goal.returns
returns c =
    cells_apart c.args.depth c.args.n (lent_table c.args.table) (sym c.if-not-keep_rules.ensures) c.lie-count.ensures.lies (sym c.if-not-follow.ensures)
    refl c.lie-count.ensures.within
