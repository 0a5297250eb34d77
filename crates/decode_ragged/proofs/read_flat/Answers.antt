-- `read_flat` meets its contract: the reader's answer by the check (RaggedLaws), and what the copying rests on.
-- Assumes nothing.
use mathlib.Core.Path.{sym, subst}
use Prim.Native.Nat.{ℕ, ◌≤◌}
use native.Mathlib.Omega.{arith}
use Rattle.std.proofs.lemmas.Result.{err_from_is_err_and}
use Rattle.array.specs.Limits.{most_cells}
use Rattle.array.specs.Meaning.{width_of, place_of}
use Rattle.codec.specs.Mask.{mask_form}
use Rattle.stored_index.proofs.CheckedIndex.{index_checked, checked_refused}
use Rattle.decode_ragged.proofs.RaggedLaws.{flat_is}
use Rattle.decode_ragged.proofs.read_flat.Goals as goal

pub returns-in_err-found : goal.returns-in_err-found
returns-in_err-found c =
    let a = c.args in
    let w = width_of a.width in
    let place = place_of a.place in
    let p = err_from_is_err_and c.from_residual.result c.from_residual.ensures.1 in
    λ x masks. rw (p.1, p.2, flat_is (mask_form x) w place a.s.now a.n (checked_refused w place a.s.now 0 a.n _ (sym c.in_err-found.ensures)))

pub write_flat-requires : goal.write_flat-requires
write_flat-requires c =
    let a = c.args in
    let checked = index_checked (width_of a.width) (place_of a.place) a.s.now 0 a.n c.in_ok-found.found (omega arith) (sym c.in_ok-found.ensures) in
    (subst (λ (k : ℕ). k ≤ most_cells) (sym checked.cells_are) c.requires, checked.within)

pub returns : goal.returns
returns c =
    let a = c.args in
    let w = width_of a.width in
    let place = place_of a.place in
    let checked = index_checked w place a.s.now 0 a.n c.in_ok-found.found (omega arith) (sym c.in_ok-found.ensures) in
    λ x masks. rw (flat_is (mask_form x) w place a.s.now a.n checked.gave) (c.write_flat.ensures masks)
