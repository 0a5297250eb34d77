-- `put::put_arrangement` meets its contract: which output is too short, or that all was stored.
use Rattle.std.proofs.Common.{ℕ, List, arith, sym, ap, ◌∙◌}
use Rattle.array.specs.Buffers.{over}
use Rattle.array.specs.Outcome.{content_array}
use Rattle.array.proofs.Putting.{without_masks_lem, no_values, no_offsets, put}
use Rattle.arrangement.specs.States.{stated}
use Rattle.arrangement.proofs.Laid.{masks_are, values_are, offsets_are, masks_long, values_long, offsets_long}
use Rattle.arrangement.proofs.put.put_arrangement.Goals as goal

pub returns-then-masks-planes : goal.returns-then-masks-planes
returns-then-masks-planes c =
    let a = c.args in
    without_masks_lem (stated a.states.now) (content_array a.masks.now a.values.now a.offsets.now) _ (masks_long a.states.now) (omega (arith, c.if-masks-planes.true))

pub returns-then-values-states : goal.returns-then-values-states
returns-then-values-states c =
    let a = c.args in
    no_values (stated a.states.now) (content_array a.masks.now a.values.now a.offsets.now) _ (values_long a.states.now) c.if-values-states.true

pub returns-then-offsets-count : goal.returns-then-offsets-count
returns-then-offsets-count c =
    let a = c.args in
    no_offsets (stated a.states.now) (content_array a.masks.now a.values.now a.offsets.now) _ (offsets_long a.states.now) c.if-offsets-count.true

pub returns : goal.returns
returns c =
    let a = c.args in
    let s = a.states.now in
    put (stated s) (content_array a.masks.now a.values.now a.offsets.now) _ _ _ (masks_long s) (values_long s) (offsets_long s)
    (omega (arith, c.if-masks-planes.false)) c.if-values-states.false c.if-offsets-count.false _ _ _
    (c.put_planes.ensures ∙ ap (λ (x : List ℕ). over x a.masks.now) (sym (masks_are s)))
    (c.fill_bytes.ensures ∙ ap (λ (x : List ℕ). over x a.values.now) (sym (values_are s)))
    (c.put_offsets.ensures ∙ ap (λ (x : List ℕ). over x a.offsets.now) (sym (offsets_are s)))
