-- A cut by places: masks and values where they lie in an array that keeps the rules are those of the cells that the definition gathers.
-- Assumes nothing.
use mathlib.Core.Path.{◌≡◌, refl, sym, ap, ◌∙◌}
use Prim.Native.Nat.{ℕ, ◌*◌, ◌<◌}
use native.Mathlib.Nat.{zero-add, le_of_eq}
use mathlib.Core.List.{List}
use Rattle.array.specs.Lists.{joined, All}
use Rattle.array.specs.Kind.{Kind}
use Rattle.array.specs.Shape.{volume}
use Rattle.array.specs.Subset.{Subset, SubsetOk, cells_in}
use Rattle.array.specs.Content.{Content, ContentOk, offsets_for, layout, null_cell}
use Rattle.array.specs.Places.{begins_at, value_in, values_at, mask_at, planes_at, cell_at}
use Rattle.array.proofs.Numbered.{planes_are, cells_at_lem, laid_is}
use Rattle.array.proofs.SubsetLaws.{cells_in_below}
use Rattle.array.proofs.LayoutLaws.{content_path}
use Rattle.chunks.specs.Cut.{cut_of}

-- a cut by places
abbrev pub cut_by : Kind → ℕ → Content → List ℕ → Content
cut_by k n c js = record {
  masks = planes_at k.depth 0 n c.masks js;
  values = joined (values_at (begins_at k.form c.offsets) c.values js);
  offsets = offsets_for k.form (values_at (begins_at k.form c.offsets) c.values js);
}

pub cut_is : {k : Kind} (shape : List ℕ) {c : Content} → ContentOk k (volume shape) c → (b : Subset) → SubsetOk shape b → cut_of k shape c b ≡ cut_by k (volume shape) c (cells_in shape b)
cut_is {k} shape {c} ok b s =
    let n : ℕ = volume shape in
    let js : List ℕ = cells_in shape b in
    let p : All (λ j. j < n) js = cells_in_below shape b s in
    ap (layout k.form k.depth) (cells_at_lem ok (null_cell k) js p)
    ∙ laid_is k.form k.depth (cell_at k n c) (mask_at n c.masks) (value_in k.form c) (λ j. refl) js
    ∙ content_path (sym (planes_are n c.masks js p k.depth 0 (le_of_eq (ap (λ (d : ℕ). d * n) (zero-add k.depth) ∙ sym ok.masks_fit)))) refl refl
