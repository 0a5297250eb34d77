-- `spread_laid` meets its contract, by the laws of Placing.
-- Assumes nothing.
use native.Mathlib.Omega.{arith}
use Rattle.array.specs.Meaning.{told_mark}
use Rattle.decode_planes.proofs.Placing.{Turn, few, placing_begins, placing_ends, placing_turn, placing_more}
use Rattle.decode_planes.proofs.spread_laid.Goals as goal
use Rattle.decode_planes.proofs.spread_laid.Goals.{In-loop-j}

pub overflow_sub-laid : goal.overflow_sub-laid
overflow_sub-laid c = omega (arith, few c.requires)

pub loop-j-init : goal.loop-j-init
loop-j-init c = placing_begins c.requires

-- a byte is left to place
turn : (c : In-loop-j) → Turn c.args.from c.args.to c.args.n c.args.cells c.loop-j.masks c.loop-j.i c.loop-j.j
turn c = placing_turn c.loop-j.invariant c.loop-j-test.true

pub overflow_add-b : goal.overflow_add-b
overflow_add-b c = omega (arith, turn (goal.at.overflow_add-b c).In-loop-j)

pub bounds-masks-laid : goal.bounds-masks-laid
bounds-masks-laid c = omega (arith, turn (goal.at.bounds-masks-laid c).In-loop-j)

pub bounds-masks-to : goal.bounds-masks-to
bounds-masks-to c = omega (arith, turn (goal.at.bounds-masks-to c).In-loop-j)

pub loop-j-preserved : goal.loop-j-preserved
loop-j-preserved c =
    let mark = c.mark_of-mark in
    rw c.skip-j.ensures (placing_more c.loop-j.invariant c.loop-j-test.true (told_mark mark.result) mark.ensures c.if_set.ensures)

pub returns : goal.returns
returns c = placing_ends c.loop-j.invariant c.loop-j-test.false c.fill_bytes.ensures
