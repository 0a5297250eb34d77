-- `ragged::put_cell_offsets` meets its contract, by the laws of Placed.
-- Assumes nothing.
use mathlib.Core.Path.{◌≡◌, ap, ◌∙◌}
use Prim.Native.Nat.{ℕ, ◌+◌}
use native.Mathlib.Omega.{arith}
use lib.ListN.{set}
use Rattle.live_cells.specs.Levels.{shown_in}
use Rattle.encode_data.proofs.Summing.{summing_fits}
use Rattle.guest_read.proofs.Placed.{placed_begins, placed_more, placed-ends}
use Rattle.guest_read.proofs.ragged.put_cell_offsets.Goals as goal

pub loop-j-init : goal.loop-j-init
loop-j-init c = placed_begins (shown_in c.args.places.live.level) c.args.places.rising c.requires

pub overflow_add-to : goal.overflow_add-to
overflow_add-to c = omega (arith, summing_fits c.loop-j.invariant.sums c.loop-j-test.true c.mark-mark.ensures, c.type_inv.offsets (c.loop-j.j + 1))

pub loop-j-preserved : goal.loop-j-preserved
loop-j-preserved c = placed_more c.loop-j.invariant c.loop-j-test.true c.mark-mark.ensures

pub returns : goal.returns
returns c =
    let l = c.loop-j in
    let end : c.args.places.live.level.cells ≡ l.j = omega (arith, l.invariant.sums.within, c.loop-j-test.false) in
    ap (λ (k : ℕ). set l.out k l.to) end ∙ placed-ends l.invariant c.loop-j-test.false
