-- The other way round: valid content is the layout of its cells.
-- Assumes nothing.
use mathlib.Core.Path.{◌≡◌, refl, sym, ap, ap₂, ◌∙◌}
use Prim.Native.Nat.{ℕ, zero, suc, ◌+◌, ◌*◌, ◌<◌}
use native.Mathlib.Nat.{zero-mul, suc-mul, add-mul, zero-add}
use native.Mathlib.Omega.{arith}
use mathlib.Core.List.{List, [], ◌∷◌, ◌++◌, map}
use lib.ListN.{length, drop, take-append-drop, drop_of_length-le}
use lib.Seq.{drop-drop}
use Rattle.array.specs.Lists.{from, joined}
use Rattle.array.specs.Kind.{Kind, Form, fixed, ragged}
use Rattle.array.specs.Cells.{Cell}
use Rattle.array.specs.Content.{Content, ContentOk, ValuesOk, offsets_for, layout, values_in, cells_of}
use Rattle.array.specs.Places.{value_in, mask_at, planes_by, cell_at}
use Rattle.array.proofs.Lists.{map-from, joined-pieces}
use Rattle.array.proofs.Offsets.{joined-slices_all, offsets_slices_all}
use Rattle.array.proofs.LayoutLaws.{content_path}
use Rattle.array.proofs.Numbered.{plane_is, values_are, cells_are, laid_is}

-- the mask bytes of all cells are the planes
pub planes_whole : (n : ℕ) (masks : List ℕ) (d l : ℕ) → length masks ≡ (l + d) * n → planes_by (mask_at n masks) d l (from 0 n) ≡ drop (l * n) masks
planes_whole n masks zero l e = sym (drop_of_length-le masks {i = l * n} (omega (arith, add-mul l 0 n, zero-mul n)))
planes_whole n masks (suc d) l e =
    ap₂ (λ (a b : List ℕ). a ++ b) (sym (plane_is n masks l (omega (arith, suc-mul (l + d) n, add-mul l d n))))
    (planes_whole n masks d (suc l) (omega arith) ∙ ap (λ (m : ℕ). drop m masks) (suc-mul l n) ∙ sym (drop-drop n (l * n) masks))
    ∙ take-append-drop n (drop (l * n) masks)

joined_values : (f : Form) (n : ℕ) (c : Content) → ValuesOk f n c → joined (values_in f n c) ≡ c.values
joined_values (fixed k o) n c p = joined-pieces k n c.values p.0
joined_values (ragged w q) n c p = joined-slices_all n c.offsets c.values p.0 p.1 p.2

offsets_values : (f : Form) (n : ℕ) (c : Content) → ValuesOk f n c → offsets_for f (values_in f n c) ≡ c.offsets
offsets_values (fixed k o) n c p = go c.offsets p.1
  where
    go : (os : List ℕ) → length os ≡ 0 → [] ≡ os
    go [] e = refl
    go (x ∷ os) e = absurd (omega arith)
offsets_values (ragged w q) n c p = offsets_slices_all n c.offsets c.values p.0 p.1 p.2

module _ (k : Kind) (n : ℕ) (c : Content) (ok : ContentOk k n c) where
  -- valid content is the layout of its cells
  pub layout_cells : layout k.form k.depth (cells_of k n c) ≡ c
  layout_cells =
      let vs : map (value_in k.form c) (from 0 n) ≡ values_in k.form n c = sym (values_are k.form n c ok.values_fit) in
      ap (layout k.form k.depth) (cells_are ok)
      ∙ laid_is k.form k.depth (cell_at k n c) (mask_at n c.masks) (value_in k.form c) (λ j. refl) (from 0 n)
      ∙ content_path
      (planes_whole n c.masks k.depth 0 (ok.masks_fit ∙ ap (λ (d : ℕ). d * n) (sym (zero-add k.depth))) ∙ ap (λ (m : ℕ). drop m c.masks) (zero-mul n))
      (ap joined vs ∙ joined_values k.form n c ok.values_fit) (ap (offsets_for k.form) vs ∙ offsets_values k.form n c ok.values_fit)

  -- and what its cells are says what it is
  pub content_is : (g : ℕ → Cell k.depth) → ((j : ℕ) → j < n → cell_at k n c j ≡ g j) → c ≡ layout k.form k.depth (map g (from 0 n))
  content_is g e = sym layout_cells ∙ ap (layout k.form k.depth) (cells_are ok ∙ map-from (cell_at k n c) g 0 n (λ j h. e j (omega arith)))
