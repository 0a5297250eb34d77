-- `migrate_step` meets its contract: one law for each answer (proofs/Stages).
-- Assumes nothing.
use Rattle.std.proofs.lemmas.Result.{err_from_is_err_and}
use mathlib.Core.Path.{◌≡◌, sym, ap, ◌∙◌}
use Prim.Native.Nat.{◌<◌}
use native.Mathlib.Numerals.{add-one}
use native.Mathlib.Omega.{arith}
use lib.ListN.{length}
use lib.Seq.{length-take-le}
use Rattle.migrate_check.specs.Meaning.{live_of}
use Rattle.migrate_step.proofs.Stages.{step_by, not_checked, Passed, passed, lists, all_moved, some_left, counted, moved_on}
use Rattle.migrate_step.proofs.migrate_step.Goals.{In_ok-sum}
use Rattle.migrate_step.proofs.migrate_step.Goals as goal

ok : (c : In_ok-sum) → Passed (live_of c.args.table c.args.moved c.args.moved_lengths.now c.args.area.now) c.in_ok-sum.sum
ok c = passed _ _ c.in_ok-sum.ensures

some : (c : In_ok-sum) → (c.args.moved ≡ length c.args.table.old_lengths.now → ⊥) → c.args.moved < length c.args.table.old_lengths.now
some c f = some_left (ok c) f

pub returns-in_err-sum : goal.returns-in_err-sum
returns-in_err-sum c =
    let p = err_from_is_err_and c.from_residual.result c.from_residual.ensures.1 in
    rw (p.1, p.2) (not_checked _ _ c.in_err-sum.ensures)

pub returns-then-number-table : goal.returns-then-number-table
returns-then-number-table c = all_moved (ok (goal.at.returns-then-number-table c).In_ok-sum) c.if-number-table.true

pub slice_bounds-end_of-end : goal.slice_bounds-end_of-end
slice_bounds-end_of-end c = let l = lists (ok (goal.at.slice_bounds-end_of-end c).In_ok-sum) in omega (arith, l.few, l.moved_count)

pub slice_bounds-end_of-end-2 : goal.slice_bounds-end_of-end-2
slice_bounds-end_of-end-2 c =
    let l = lists (ok (goal.at.slice_bounds-end_of-end-2 c).In_ok-sum) in
    sym (length-take-le c.args.moved c.args.moved_lengths.now (omega (arith, l.few, l.moved_count)))

pub end_of-at-requires : goal.end_of-at-requires
end_of-at-requires c = let l = lists (ok (goal.at.end_of-at-requires c).In_ok-sum) in omega (arith, l.within)

pub old_string-requires-clause-room : goal.old_string-requires-clause-room
old_string-requires-clause-room c = let l = lists (ok (goal.at.old_string-requires-clause-room c).In_ok-sum) in omega (arith, l.old_sum)

pub old_string-requires-clause-there : goal.old_string-requires-clause-there
old_string-requires-clause-there c = some (goal.at.old_string-requires-clause-there c).In_ok-sum c.if-number-table.false

pub put_string-requires-clause-counted : goal.put_string-requires-clause-counted
put_string-requires-clause-counted c =
    let q = (goal.at.put_string-requires-clause-counted c).In_ok-sum in
    rw c.old_string.ensures (counted (ok q) (some q c.if-number-table.false))

pub put_string-requires-clause-within : goal.put_string-requires-clause-within
put_string-requires-clause-within c = let l = lists (ok (goal.at.put_string-requires-clause-within c).In_ok-sum) in omega (arith, l.within, c.end_of-at.ensures)

pub returns-in_err-bytes : goal.returns-in_err-bytes
returns-in_err-bytes c =
    let q = (goal.at.returns-in_err-bytes c).In_ok-sum in
    let t = live_of c.args.table c.args.moved c.args.moved_lengths.now c.args.area.now in
    let p = err_from_is_err_and c.from_residual-in_err-bytes.result c.from_residual-in_err-bytes.ensures.1 in
    rw (p.1, p.2) (ap (step_by t) (rw (c.end_of-at.ensures, c.old_string.ensures) at c.in_err-bytes.ensures) ∙ moved_on (ok q) (some q c.if-number-table.false))

pub offset_bounds-moved_lengths-number : goal.offset_bounds-moved_lengths-number
offset_bounds-moved_lengths-number c = omega (arith, some (goal.at.offset_bounds-moved_lengths-number c).In_ok-sum c.if-number-table.false)

pub bounds-moved_lengths-number : goal.bounds-moved_lengths-number
bounds-moved_lengths-number c =
    let q = (goal.at.bounds-moved_lengths-number c).In_ok-sum in
    let l = lists (ok q) in
    omega (arith, some q c.if-number-table.false, l.old_count, l.moved_count)

pub overflow_add-result : goal.overflow_add-result
overflow_add-result c = omega (arith, some (goal.at.overflow_add-result c).In_ok-sum c.if-number-table.false)

pub returns : goal.returns
returns c =
    let q = (goal.at.returns c).In_ok-sum in
    let t = live_of c.args.table c.args.moved c.args.moved_lengths.now c.args.area.now in
    rw add-one (ap (step_by t) (rw (c.end_of-at.ensures, c.old_string.ensures) at c.in_ok-bytes.ensures) ∙ moved_on (ok q) (some q c.if-number-table.false))
