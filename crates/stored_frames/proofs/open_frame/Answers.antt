-- `open_frame` meets its contract: each answer by the fields that were read (Opening).
-- Assumes nothing.
use mathlib.Core.Path.{sym, ◌∙◌}
use native.Mathlib.Omega.{arith}
use Rattle.array.specs.Meaning.{masks_of}
use Rattle.array.proofs.Answers.{told_same}
use Rattle.codec.specs.Mask.{mask_form}
use Rattle.stored_frames.proofs.Opening.{short_first, short_second, Fields, fields_read, by_mask, by_total, by_count}
use Rattle.stored_frames.proofs.open_frame.Goals as goal
use Rattle.stored_frames.proofs.open_frame.Goals.{In-Ok-read_u64}

pub returns-in_default : goal.returns-in_default
returns-in_default c =
    let a = c.args in
    short_first (mask_form (masks_of a.form)) a.s.now a.at a.cells _ (sym c.read_u64.ensures ∙ told_same c.in_default.is)

pub returns-in_default-read_u64 : goal.returns-in_default-read_u64
returns-in_default-read_u64 c =
    let a = c.args in
    short_second (mask_form (masks_of a.form)) a.s.now a.at a.cells _ (sym c.read_u64-2.ensures ∙ told_same c.in_default-read_u64.is)

-- both fields are read
fields : (c : In-Ok-read_u64) → Fields c.args.s.now c.args.at c.in-Ok.mask c.in-Ok-read_u64.content
fields c =
    fields_read c.args.s.now c.args.at c.in-Ok.mask c.in-Ok-read_u64.content c.requires.0
    (sym c.read_u64.ensures ∙ told_same c.in-Ok.is) (sym c.read_u64-2.ensures ∙ told_same c.in-Ok-read_u64.is)

pub overflow_sub-left : goal.overflow_sub-left
overflow_sub-left c = omega (arith, (fields (goal.at.overflow_sub-left c).In-Ok-read_u64).room)

pub returns-then-mask-size : goal.returns-then-mask-size
returns-then-mask-size c = by_mask (fields (goal.at.returns-then-mask-size c).In-Ok-read_u64) (mask_form (masks_of c.args.form)) c.args.cells c.mask_length-size.ensures c.if-mask-size.true

pub returns-then-left-size : goal.returns-then-left-size
returns-then-left-size c =
    by_total (fields (goal.at.returns-then-left-size c).In-Ok-read_u64) (mask_form (masks_of c.args.form)) c.args.cells c.mask_length-size.ensures c.if-mask-size.false (λ e. omega arith)

pub returns-then-left-size-2 : goal.returns-then-left-size-2
returns-then-left-size-2 c =
    by_total (fields (goal.at.returns-then-left-size-2 c).In-Ok-read_u64) (mask_form (masks_of c.args.form)) c.args.cells c.mask_length-size.ensures c.if-mask-size.false (λ e. omega arith)

pub check_mask-requires : goal.check_mask-requires
check_mask-requires c = omega (arith, (fields (goal.at.check_mask-requires c).In-Ok-read_u64).room, c.mask_length-size.ensures)

pub returns : goal.returns
returns c =
    c.check_mask.ensures ∙ by_count (fields (goal.at.returns c).In-Ok-read_u64) (mask_form (masks_of c.args.form)) c.args.cells c.mask_length-size.ensures c.if-mask-size.false (omega arith)
