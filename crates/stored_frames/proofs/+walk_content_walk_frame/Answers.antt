-- The walk of contents and frames meets its contracts: an opened frame's mask lies within the bytes (Opening).
-- Assumes nothing.
use Rattle.std.proofs.Common.{◌≡◌, ◌≤◌, ◌+◌, ℕ, List, length, drop, length-drop, sym, ap, ◌∙◌, arith}
use Rattle.array.specs.Answer.{gives}
use Rattle.array.specs.Kind.{Masks}
use Rattle.array.specs.Meaning.{masks_of}
use Rattle.codec.specs.Mask.{mask_form}
use Rattle.stored_frames.specs.Walk.{opened}
use Rattle.stored_frames.specs.Stored.{content_at}
use Rattle.stored_frames.proofs.Opening.{frame_open, content_end, content_frame, frame_content, frame_hidden, frame_none}
use Rattle.stored_frames.proofs.+walk_content_walk_frame.Goals as goal

-- of an opened frame with a mask of `size` bytes: where the content begins, within the bytes, and that its cells are few
module _ (m : Masks) (s : List ℕ) (at cells set size : ℕ) (was_open : opened (mask_form m) (drop at s) cells ≡ gives set)
    (sized : size ≡ (mask_form m).size cells) where
  content_is : at + (16 + size) ≡ content_at (mask_form m) at cells
  content_is = ap (λ (j : ℕ). at + (16 + j)) sized

  content_room : at ≤ length s → at + (16 + size) ≤ length s
  content_room h = omega (arith, sized, (frame_open m (drop at s) cells set was_open).room, length-drop at s)

pub walk_content-returns-then-depth-eq0 : goal.walk_content-returns-then-depth-eq0
walk_content-returns-then-depth-eq0 t c =
    let a = c.args in content_end (mask_form (masks_of a.form)) a.depth a.s.now a.at a.cells c.if-depth-eq0.true

pub walk_content-returns-else-depth-eq0 : goal.walk_content-returns-else-depth-eq0
walk_content-returns-else-depth-eq0 t c =
    let a = c.args in c.walk_frame.ensures ∙ content_frame (mask_form (masks_of a.form)) a.depth a.s.now a.at a.cells c.if-depth-eq0.false

pub walk_frame-overflow_add-content : goal.walk_frame-overflow_add-content
walk_frame-overflow_add-content t c =
    let a = c.args in
    omega (arith, content_room (masks_of a.form) a.s.now a.at a.cells _ _ (sym c.in_ok-set.ensures) c.mask_length.ensures (omega arith))

pub walk_frame-overflow_add-content-2 : goal.walk_frame-overflow_add-content-2
walk_frame-overflow_add-content-2 t c =
    let a = c.args in
    omega (arith, content_room (masks_of a.form) a.s.now a.at a.cells _ _ (sym c.in_ok-set.ensures) c.mask_length.ensures (omega arith))

pub walk_frame-walk_content-requires : goal.walk_frame-walk_content-requires
walk_frame-walk_content-requires t c =
    let a = c.args in
    let m : Masks = masks_of a.form in
    let was_open : opened (mask_form m) (drop a.at a.s.now) a.cells ≡ gives c.in_ok-set.set = sym c.in_ok-set.ensures in
    let room : a.at + (16 + c.mask_length.result) ≤ length a.s.now = content_room m a.s.now a.at a.cells _ _ was_open c.mask_length.ensures (omega arith) in
    omega (arith, room, (frame_open m (drop a.at a.s.now) a.cells c.in_ok-set.set was_open).few)

pub walk_frame-returns-then-set-gt0 : goal.walk_frame-returns-then-set-gt0
walk_frame-returns-then-set-gt0 t c =
    let a = c.args in
    let m : Masks = masks_of a.form in
    let was_open : opened (mask_form m) (drop a.at a.s.now) a.cells ≡ gives c.in_ok-set.set = sym c.in_ok-set.ensures in
    c.walk_content.ensures
    ∙ frame_content (mask_form m) a.below a.s.now a.at a.cells _ was_open (content_is m a.s.now a.at a.cells _ _ was_open c.mask_length.ensures) (omega (arith, c.if-set-gt0.true))

pub walk_frame-returns-then-content-s : goal.walk_frame-returns-then-content-s
walk_frame-returns-then-content-s t c =
    let a = c.args in
    let m : Masks = masks_of a.form in
    let was_open : opened (mask_form m) (drop a.at a.s.now) a.cells ≡ gives c.in_ok-set.set = sym c.in_ok-set.ensures in
    let room : a.at + (16 + c.mask_length.result) ≤ length a.s.now = content_room m a.s.now a.at a.cells _ _ was_open c.mask_length.ensures (omega arith) in
    frame_hidden (mask_form m) a.below a.s.now a.at a.cells _ was_open (content_is m a.s.now a.at a.cells _ _ was_open c.mask_length.ensures) (omega (arith, c.if-set-gt0.false))
    (λ e. absurd (omega (arith, room, c.if-content-s.true)))

pub walk_frame-returns-else-content-s : goal.walk_frame-returns-else-content-s
walk_frame-returns-else-content-s t c =
    let a = c.args in
    let m : Masks = masks_of a.form in
    let was_open : opened (mask_form m) (drop a.at a.s.now) a.cells ≡ gives c.in_ok-set.set = sym c.in_ok-set.ensures in
    frame_none (mask_form m) a.below a.s.now a.at a.cells _ was_open (content_is m a.s.now a.at a.cells _ _ was_open c.mask_length.ensures) (omega (arith, c.if-set-gt0.false))
    (omega (arith, c.if-content-s.false))
