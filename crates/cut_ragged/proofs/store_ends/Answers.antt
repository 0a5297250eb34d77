-- `store_ends` meets its contract: the ends of the cells before `i` lie in place (proofs/Ragged).
-- Assumes nothing.
use Prim.Native.Nat.{suc, ◌+◌, ◌-◌}
use mathlib.Core.Path.{◌≡◌, ap}
use native.Mathlib.Omega.{arith}
use Rattle.array.proofs.Places.{run_rises, run_below}
use Rattle.cut_ragged.proofs.Ragged.{images_begin, images_end}
use Rattle.cut_ragged.specs.Source.{begins_in}
use Rattle.cut_ragged.proofs.store_ends.Goals as goal

pub loop-i-init : goal.loop-i-init
loop-i-init c =
    let r = c.args.row in
    images_begin (λ j. c.args.total + (begins_in c.args.src (suc j) - c.args.begin)) c.args.out.now (r.at + 1) r.first r.cells c.requires.0

pub overflow_sub-out : goal.overflow_sub-out
overflow_sub-out c =
    let r = c.args.row in
    let j = c.loop-i.i in
    let q : r.first + (j + 1) ≡ r.first + j + 1 = omega arith in
    omega (arith, run_rises c.requires.1.rises r.first (j + 1) (omega arith), ap (begins_in c.args.src) q, c.requires.1.here, c.offset_at-end.ensures)

pub overflow_add-out : goal.overflow_add-out
overflow_add-out c =
    let r = c.args.row in
    omega (arith, run_below c.requires.1.rises (r.first + c.loop-i.i) 1 (omega arith), c.requires.1.few_bytes, c.offset_at-end.ensures)

pub returns : goal.returns
returns c = images_end c.loop-i.invariant (omega arith)
