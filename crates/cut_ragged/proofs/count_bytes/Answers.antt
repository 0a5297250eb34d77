-- `count_bytes` meets its contract: the rows before the iterator's place are counted (proofs/Counting).
-- Assumes nothing.
use Prim.Native.Nat.{ℕ, ◌+◌, ◌-◌, ◌<◌}
use mathlib.Core.Path.{sym, ap₂, subst}
use native.Mathlib.Omega.{arith}
use Rattle.array.specs.Subset.{pairs}
use Rattle.array.specs.Places.{bytes_at}
use Rattle.array.proofs.Places.{run_rises}
use Rattle.subset.specs.Walk.{row_of}
use Rattle.subset.specs.Cells.{cells_of}
use Rattle.subset.proofs.Steps.{RowStep, row_step}
use Rattle.cut_ragged.specs.Source.{begins_in}
use Rattle.cut_ragged.proofs.Counting.{bytes_most, Counting, counting_more}
use Rattle.cut_ragged.proofs.count_bytes.Goals.{In-Some, After-offset_at-end}
use Rattle.cut_ragged.proofs.count_bytes.Goals as goal

turn : (c : In-Some) → RowStep c.args.subset c.loop-row.row-iterator c.in-Some.row c.next.new.self
turn c = row_step c.args.subset c.loop-row.row-iterator c.loop-row.invariant.1 c.in-Some.row c.next.new.self c.in-Some.ensures.steps

pub overflow_sub-total : goal.overflow_sub-total
overflow_sub-total c =
    let t = turn (goal.at.overflow_sub-total c).In-Some in
    omega (arith, run_rises c.requires.rises c.in-Some.row.first c.in-Some.row.cells t.row.inside, c.offset_at-end.ensures, c.offset_at-begin.ensures)

counted : (c : After-offset_at-end) → let s = c.args.subset in let l = c.loop-row in
    Counting (begins_in c.args.src) (cells_of s) s.count (row_of s.lens.now) (l.row-iterator.at + c.in-Some.row.cells) (l.total + (c.offset_at-end.result - c.offset_at-begin.result))
counted c =
    let s = c.args.subset in
    let l = c.loop-row in
    subst (λ (i : ℕ). Counting (begins_in c.args.src) (cells_of s) s.count (row_of s.lens.now) (l.row-iterator.at + c.in-Some.row.cells) (l.total + i))
    (sym (ap₂ (λ (x y : ℕ). x - y) c.offset_at-end.ensures c.offset_at-begin.ensures))
    (counting_more l.invariant.0 (turn (goal.at.overflow_sub-total c).In-Some).row c.requires.rises)

pub overflow_add-total : goal.overflow_add-total
overflow_add-total c =
    let s = c.args.subset in
    let short : bytes_at (begins_in c.args.src) (cells_of s) < 18446744073709551616 = omega (
      arith,
      bytes_most s.shape.now (pairs s.starts.now s.lens.now) c.requires.rises s.asked.within.inside,
      c.requires.data_room,
    ) in
    omega (arith, (counted (goal.at.overflow_add-total c).After-offset_at-end).same, short)

pub loop-row-preserved : goal.loop-row-preserved
loop-row-preserved c =
    let t = turn (goal.at.loop-row-preserved c).In-Some in
    (rw t.on (counted (goal.at.loop-row-preserved c).After-offset_at-end), t.same)
