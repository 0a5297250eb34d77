-- `store_chunks` meets its contract: 6 for each output that is too short, else what the stores leave is the merged content (proofs/Closed).
-- Assumes nothing.
use Prim.Native.Nat.{◌≤◌}
use mathlib.Core.Path.{ap}
use native.Mathlib.Omega.{arith}
use Rattle.array.specs.Limits.{most_cells}
use Rattle.array.specs.Lists.{All}
use Rattle.array.specs.Subset.{SubsetOk}
use Rattle.array.specs.Meaning.{form_of}
use Rattle.array.specs.Content.{Content}
use Rattle.array.specs.Outcome.{content_array}
use Rattle.valid.proofs.CheckLaws.{small_product}
use Rattle.subset.specs.Cells.{subsets_in}
use Rattle.subset.proofs.Subsets.{all_inside}
use Rattle.merge_output.proofs.Closed.{without_masks_lem, no_values, no_offsets, masks_asked, parts_asked, ragged_merge_asked, fixed_stored, ragged_stored}
use Rattle.merge_output.proofs.store_chunks.Goals.{Start}
use Rattle.merge_output.proofs.store_chunks.Goals as goal

few : (c : Start) → c.args.cells ≤ most_cells
few c = omega (arith, c.requires.checked.counted, c.args.subsets.each.shaped.few_cells)

inside : (c : Start) → All (SubsetOk c.args.subsets.shape.now) (subsets_in c.args.subsets)
inside c = all_inside _ _ c.args.subsets.each.many.each

abbrev outputs : Start → Content
outputs c = let a = c.args in content_array a.out_masks.now a.out_values.now a.out_offsets.now

pub overflow_mul-mask_bytes : goal.overflow_mul-mask_bytes
overflow_mul-mask_bytes c =
    omega (arith, small_product c.args.kind.depth c.args.cells (omega (arith, c.requires.checked.kind.shallow)) (few (goal.at.overflow_mul-mask_bytes c).Start))

pub returns-then-out_masks-mask_bytes : goal.returns-then-out_masks-mask_bytes
returns-then-out_masks-mask_bytes c = without_masks_lem (inside (goal.at.returns-then-out_masks-mask_bytes c).Start) c.requires _ c.if-out_masks-mask_bytes.true

pub returns-then-out_values-bytes : goal.returns-then-out_values-bytes
returns-then-out_values-bytes c = no_values (inside (goal.at.returns-then-out_values-bytes c).Start) c.requires _ c.if-out_values-bytes.true

pub store_masks-requires : goal.store_masks-requires
store_masks-requires c =
    let p = (goal.at.store_masks-requires c).Start in
    masks_asked (inside p) c.requires (outputs p) c.if-out_masks-mask_bytes.false

pub store_parts-requires : goal.store_parts-requires
store_parts-requires c =
    let p = (goal.at.store_parts-requires c).Start in
    parts_asked (inside p) c.requires (outputs p) (ap form_of c.in-Fixed.is) (omega arith)

pub returns-then-out_offsets-cells : goal.returns-then-out_offsets-cells
returns-then-out_offsets-cells c =
    no_offsets (inside (goal.at.returns-then-out_offsets-cells c).Start) c.requires _ (ap form_of c.in-Ragged.is) c.if-out_offsets-cells.true

pub store_masks-requires-in-Ragged : goal.store_masks-requires-in-Ragged
store_masks-requires-in-Ragged c =
    let p = (goal.at.store_masks-requires-in-Ragged c).Start in
    masks_asked (inside p) c.requires (outputs p) c.if-out_masks-mask_bytes.false

pub merge_ragged-requires : goal.merge_ragged-requires
merge_ragged-requires c =
    let p = (goal.at.merge_ragged-requires c).Start in
    ragged_merge_asked (inside p) c.requires (outputs p) (ap form_of c.in-Ragged.is) (omega arith)
    c.if-out_offsets-cells.false

pub returns-in-Fixed : goal.returns-in-Fixed
returns-in-Fixed c =
    let p = (goal.at.returns-in-Fixed c).Start in
    fixed_stored (inside p) c.requires (outputs p) (ap form_of c.in-Fixed.is)
    c.if-out_masks-mask_bytes.false (omega arith) c.store_masks.ensures c.store_parts.ensures

pub returns-else-out_offsets-cells : goal.returns-else-out_offsets-cells
returns-else-out_offsets-cells c =
    let p = (goal.at.returns-else-out_offsets-cells c).Start in
    ragged_stored (inside p) c.requires (outputs p) (ap form_of c.in-Ragged.is)
    c.if-out_masks-mask_bytes.false (omega arith) c.if-out_offsets-cells.false c.store_masks-in-Ragged.ensures c.merge_ragged.ensures.offsets c.merge_ragged.ensures.bytes
