-- `write_fixed` meets its contract, by the laws of FixedLaws.
-- Assumes nothing.
use native.Mathlib.Omega.{arith}
use Rattle.array.specs.Meaning.{order_of}
use Rattle.decode_planes.proofs.Levels.{masked, times_first}
use Rattle.decode_planes.proofs.Small.{planes_small, bytes_small}
use Rattle.decode_fixed.proofs.FixedLaws.{fixed_short_masks, fixed_short_values, values_within, deep_written}
use Rattle.decode_fixed.proofs.write_fixed.Goals as goal

pub overflow_mul-planes : goal.overflow_mul-planes
overflow_mul-planes c =
    let l = c.requires.within.limits in omega (arith, planes_small c.args.kind.depth c.args.n l.shallow l.few)

pub overflow_mul-bytes : goal.overflow_mul-bytes
overflow_mul-bytes c = omega (arith, bytes_small c.args.n c.args.size c.requires.within.limits.few c.requires.within.small)

pub returns-then-masks-planes : goal.returns-then-masks-planes
returns-then-masks-planes c =
    let a = c.args in fixed_short_masks (order_of a.order) c.requires.within a.masks.now a.values.now c.if-masks-planes.true

pub returns-then-values-bytes : goal.returns-then-values-bytes
returns-then-values-bytes c = fixed_short_values (order_of c.args.order) c.requires.within c.args.masks.now c.args.values.now c.if-values-bytes.true

pub spread_values-requires : goal.spread_values-requires
spread_values-requires c =
    values_within (order_of c.args.order) c.requires.within c.args.masks.now c.args.values.now c.if-masks-planes.false c.if-values-bytes.false (masked c.requires.deep)
    c.place_planes.ensures (omega (arith, times_first c.args.kind.depth c.args.n (masked c.requires.deep))) c.place_planes.auto.masks

pub returns : goal.returns
returns c =
    deep_written (order_of c.args.order) c.requires.within c.args.masks.now c.args.values.now c.if-masks-planes.false c.if-values-bytes.false (masked c.requires.deep) c.place_planes.ensures
    (omega (arith, times_first c.args.kind.depth c.args.n (masked c.requires.deep))) c.spread_values.ensures
