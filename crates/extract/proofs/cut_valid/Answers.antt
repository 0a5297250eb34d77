-- `cut_valid` meets its contract: what is copied is the cut (proofs/Cutting), and its masks stand before the rest (proofs/Outcomes).
-- Assumes nothing.
use Prim.Native.Nat.{ℕ, ◌*◌}
use mathlib.Core.Path.{sym, ap, ◌∙◌}
use mathlib.Core.List.{List}
use Rattle.std.specs.Prelude.{Ok}
use Rattle.std.proofs.lemmas.Result.{err_from_is_err_and}
use Rattle.array.specs.Buffers.{over}
use Rattle.array.specs.Outcome.{content_array, outcome_array}
use Rattle.extract.proofs.Cutting.{cut_masks, cut_masks_long, cut_values_asked, masks_before}
use Rattle.array.proofs.Putting.{without_masks_lem}
use Rattle.extract.proofs.cut_valid.Goals as goal

pub returns-then-out_masks-mask_bytes : goal.returns-then-out_masks-mask_bytes
returns-then-out_masks-mask_bytes c = without_masks_lem _ _ _ (cut_masks_long c.args.subset c.requires) c.if-out_masks-mask_bytes.true

pub cut_values-requires : goal.cut_values-requires
cut_values-requires c = cut_values_asked c.args.subset c.requires

pub returns-in_err-written : goal.returns-in_err-written
returns-in_err-written c =
    let a = c.args in
    let p = err_from_is_err_and c.from_residual.result c.from_residual.ensures.1 in
    rw (p.1, p.2) (masks_before a.subset c.requires (content_array a.out_masks.now a.out_values.now a.out_offsets.now) c.if-out_masks-mask_bytes.false c.in_err-written.ensures)

pub returns : goal.returns
returns c =
    let a = c.args in
    let l = c.in_ok-written.written in
    ap (λ (x : List ℕ). outcome_array (Ok (record { masks = a.kind.depth * a.subset.count; values = l.values; offsets = l.offsets })) x
    c.cut_values.new.out_values c.cut_values.new.out_offsets)
    (c.copy_masks.ensures ∙ ap (λ (x : List ℕ). over x a.out_masks.now) (sym (cut_masks a.subset c.requires)))
    ∙ masks_before a.subset c.requires (content_array a.out_masks.now a.out_values.now a.out_offsets.now) c.if-out_masks-mask_bytes.false c.in_ok-written.ensures
