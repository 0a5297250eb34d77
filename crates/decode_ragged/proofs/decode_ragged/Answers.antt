-- `decode_ragged` meets its contract: the reader's answer by the walk and the check (RaggedLaws), and what the copying rests on.
-- Assumes nothing.
use mathlib.Core.Path.{sym}
use native.Mathlib.Nat.{le_trans}
use native.Mathlib.Omega.{arith}
use Rattle.std.proofs.lemmas.Result.{err_from_is_err_and}
use Rattle.array.specs.Meaning.{width_of, place_of, masks_of}
use Rattle.codec.specs.Mask.{mask_form}
use Rattle.stored_frames.proofs.Walks.{walk_passed}
use Rattle.stored_index.proofs.IndexLaws.{width_most}
use Rattle.stored_index.proofs.CheckedIndex.{index_checked, checked_refused}
use Rattle.decode_ragged.proofs.RaggedLaws.{none_within, some_within, ragged_refused, ragged_none_set, ragged_wrong, ragged_given}
use Rattle.decode_ragged.proofs.decode_ragged.Goals as goal

pub returns-in_err-at : goal.returns-in_err-at
returns-in_err-at c =
    let a = c.args in
    let p = err_from_is_err_and c.from_residual.result c.from_residual.ensures.1 in
    rw (
      p.1,
      p.2,
      ragged_refused (mask_form (masks_of a.kind.masks)) (width_of a.width) (place_of a.place) a.s.now a.kind.depth a.n c.requires.some _ (sym c.in_err-at.ensures),
    )

pub write_nested-requires-clause-within : goal.write_nested-requires-clause-within
write_nested-requires-clause-within c =
    let a = c.args in
    let found = c.in_ok-at in
    let passed = walk_passed (masks_of a.kind.masks) a.kind.depth a.s.now 0 a.n found.at found.cells c.requires.some (omega arith) (sym found.ensures) in
    none_within c.requires (width_of a.width) passed (width_most a.width) c.if-depth-eq0.false (omega arith)

pub check_ragged-requires : goal.check_ragged-requires
check_ragged-requires c =
    let a = c.args in
    let found = c.in_ok-at in
    let passed = walk_passed (masks_of a.kind.masks) a.kind.depth a.s.now 0 a.n found.at found.cells c.requires.some (omega arith) (sym found.ensures) in
    (le_trans passed.few c.requires.few, passed.inside)

pub returns-in_err-found : goal.returns-in_err-found
returns-in_err-found c =
    let a = c.args in
    let w = width_of a.width in
    let place = place_of a.place in
    let p = err_from_is_err_and c.from_residual-in_err-found.result c.from_residual-in_err-found.ensures.1 in
    rw (
      p.1,
      p.2,
      ragged_wrong (mask_form (masks_of a.kind.masks)) w place a.s.now a.kind.depth a.n c.requires.some (sym c.in_ok-at.ensures) (omega arith) _
          (checked_refused w place a.s.now c.in_ok-at.at c.in_ok-at.cells _ (sym c.in_err-found.ensures)),
    )

pub write_nested-requires-else-cells-eq0-clause-within : goal.write_nested-requires-else-cells-eq0-clause-within
write_nested-requires-else-cells-eq0-clause-within c =
    let a = c.args in
    let found = c.in_ok-at in
    let passed = walk_passed (masks_of a.kind.masks) a.kind.depth a.s.now 0 a.n found.at found.cells c.requires.some (omega arith) (sym found.ensures) in
    some_within c.requires (width_of a.width) passed
    (index_checked (width_of a.width) (place_of a.place) a.s.now found.at found.cells c.in_ok-found.found passed.inside (sym c.in_ok-found.ensures))

pub returns-then-cells-eq0 : goal.returns-then-cells-eq0
returns-then-cells-eq0 c =
    let a = c.args in
    rw
    (ragged_none_set (mask_form (masks_of a.kind.masks)) (width_of a.width) (place_of a.place) a.s.now a.kind.depth a.n c.requires.some (sym c.in_ok-at.ensures)
    (omega arith))
    c.write_nested.ensures

pub returns-in_ok-found : goal.returns-in_ok-found
returns-in_ok-found c =
    let a = c.args in
    let w = width_of a.width in
    let place = place_of a.place in
    let found = c.in_ok-at in
    let passed = walk_passed (masks_of a.kind.masks) a.kind.depth a.s.now 0 a.n found.at found.cells c.requires.some (omega arith) (sym found.ensures) in
    let checked = index_checked w place a.s.now found.at found.cells c.in_ok-found.found passed.inside (sym c.in_ok-found.ensures) in
    rw (ragged_given (mask_form (masks_of a.kind.masks)) w place a.s.now a.kind.depth a.n c.requires.some (sym found.ensures) (omega arith) checked)
    c.write_nested-else-cells-eq0.ensures
