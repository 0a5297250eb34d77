-- `write_nested` meets its contract, by the laws of RaggedWritten.
-- Assumes nothing.
use mathlib.Core.Path.{◌≡◌}
use Prim.Native.Nat.{◌+◌, ◌-◌, ◌*◌}
use native.Mathlib.Omega.{arith}
use Rattle.decode_planes.proofs.Levels.{masked, times_first}
use Rattle.decode_planes.proofs.Small.{few_cells, planes_small}
use Rattle.decode_ragged.proofs.RaggedWritten.{nested_short_masks, nested_short_values, nested_short_offsets, nested_room, nested_set, nested_ends, nested_written}
use Rattle.decode_ragged.proofs.write_nested.Goals as goal

pub overflow_mul-planes : goal.overflow_mul-planes
overflow_mul-planes c =
    let l = c.requires.within.limits in
    omega (arith, planes_small c.args.kind.depth c.args.n l.shallow l.few)

pub overflow_add-count : goal.overflow_add-count
overflow_add-count c = omega (arith, few_cells c.args.n c.requires.within.limits.few)

pub returns-then-masks-planes : goal.returns-then-masks-planes
returns-then-masks-planes c =
    let a = c.args in
    nested_short_masks c.requires.within (masked c.requires.deep) a.masks.now a.values.now a.offsets.now c.if-masks-planes.true

pub returns-then-values-bytes : goal.returns-then-values-bytes
returns-then-values-bytes c =
    let a = c.args in
    nested_short_values c.requires.within (masked c.requires.deep) a.masks.now a.values.now a.offsets.now c.if-values-bytes.true

pub returns-then-offsets-count : goal.returns-then-offsets-count
returns-then-offsets-count c =
    let a = c.args in
    nested_short_offsets c.requires.within (masked c.requires.deep) a.masks.now a.values.now a.offsets.now c.if-offsets-count.true

pub spread_offsets-requires : goal.spread_offsets-requires
spread_offsets-requires c =
    let first_is = times_first c.args.kind.depth c.args.n (masked c.requires.deep) in
    let a = c.args in (
      nested_room c.requires.within (masked c.requires.deep) a.masks.now a.values.now a.offsets.now c.place_planes.ensures (omega (arith, first_is)) c.if-offsets-count.false,
      nested_set c.requires.within (masked c.requires.deep) a.masks.now a.values.now a.offsets.now c.place_planes.ensures (omega (arith, first_is)),
      nested_ends c.requires.within,
    )

pub returns : goal.returns
returns c =
    let a = c.args in
    nested_written c.requires.within (masked c.requires.deep) a.masks.now a.values.now a.offsets.now c.place_planes.ensures
    (omega (arith, times_first a.kind.depth a.n (masked c.requires.deep))) c.if-masks-planes.false c.if-values-bytes.false
    c.if-offsets-count.false c.copy_many.ensures c.spread_offsets.ensures
