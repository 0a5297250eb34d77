-- `encode_values::values_length` meets its contract: a case for each form.
-- Assumes nothing.
use mathlib.Core.Path.{refl, ap, ◌∙◌}
use Prim.Native.Nat.{ℕ}
use native.Mathlib.Omega.{arith}
use Rattle.array.specs.Places.{bytes_at, offset_at}
use Rattle.live_cells.specs.Live.{live_at}
use Rattle.live_cells.proofs.Levels.{count_at}
use Rattle.encode_values.proofs.Forms.{count_small, fixed_small, ragged_small}
use Rattle.encode_values.proofs.values_length.Goals as goal

pub overflow_mul-result : goal.overflow_mul-result
overflow_mul-result c =
    let ec = count_at c.args.live refl c.requires.innermost in
    omega (arith, fixed_small c.args.kind c.requires.ready ec c.in-Fixed.is)

pub overflow_add-index : goal.overflow_add-index
overflow_add-index c =
    let ec = count_at c.args.live refl c.requires.innermost in
    omega (arith, count_small c.args.kind c.requires.ready ec)

pub overflow_mul-index : goal.overflow_mul-index
overflow_mul-index c =
    let ec = count_at c.args.live refl c.requires.innermost in
    omega (arith, ragged_small c.args.kind c.requires.ready ec c.in-Ragged.is c.width_bytes.ensures refl)

pub overflow_add-result : goal.overflow_add-result
overflow_add-result c =
    let ec = count_at c.args.live refl c.requires.innermost in
    omega (arith, ragged_small c.args.kind c.requires.ready ec c.in-Ragged.is c.width_bytes.ensures refl)

pub overflow_add-result-in-Ragged : goal.overflow_add-result-in-Ragged
overflow_add-result-in-Ragged c =
    let v = c.args.live.level in
    let ec = count_at c.args.live refl c.requires.innermost in
    let bytes = c.bytes.ensures ∙ ap (λ (l : ℕ). bytes_at (offset_at c.args.offsets.now) (live_at v.cells v.masks.now l)) c.requires.innermost in
    omega (arith, ragged_small c.args.kind c.requires.ready ec c.in-Ragged.is c.width_bytes.ensures bytes)
