-- A list of subsets as numbers laid end to end: as many as they are, each where it was, and each cell once where they cover the shape.
-- Assumes nothing.
use mathlib.Core.Path.{◌≡◌, sym, ap, ◌∙◌, subst}
use Prim.Native.Nat.{ℕ, ◌*◌, ◌%◌, ◌<◌, ◌≤◌}
use native.Mathlib.Nat.{mul-mod_left}
use mathlib.Core.List.{List, [], ◌∷◌, map}
use lib.ListN.{length}
use Rattle.array.specs.Lists.{joined, All}
use Rattle.array.specs.Shape.{volume, ShapeOk}
use Rattle.array.specs.Subset.{Subset, lengths, subset_of, subsets_of, SubsetOk, FullOk, NumbersOk, ManyOk, cells_of_all}
use Rattle.array.proofs.Lists.{Sized, All-map, length-joined}
use Rattle.array.proofs.SubsetLaws.{lengths_subset, subsets_joined}
use Rattle.array.proofs.Geometry.{count_all}
use Rattle.chunks.specs.Gather.{Once}
use Rattle.chunks.specs.Demand.{shape_of, Covers}

-- the numbers of a subset that holds a cell
pub record Boxed (shape ns : List ℕ) : Type 0 where
  pub numbers : NumbersOk shape ns
  pub full : All (λ n. 1 ≤ n) (shape_of shape ns)

module _ (shape : List ℕ) where
  abbrev sides : ℕ
  sides = length shape

  sized_numbers : (nss : List (List ℕ)) → All (Boxed shape) nss → Sized (2 * sides) nss
  sized_numbers [] s = tt
  sized_numbers (ns ∷ nss) s = (s.0.numbers.counted, sized_numbers nss s.1)

  full_subsets : (nss : List (List ℕ)) → All (Boxed shape) nss → All (FullOk shape) (map (subset_of sides) nss)
  full_subsets [] s = tt
  full_subsets (ns ∷ nss) s =
      (record { fits = s.0.numbers.fits; full = subst (All (λ n. 1 ≤ n)) (sym (lengths_subset sides ns s.0.numbers.counted)) s.0.full }, full_subsets nss s.1)

  pub fit_subsets : (nss : List (List ℕ)) → All (Boxed shape) nss → All (SubsetOk shape) (map (subset_of sides) nss)
  fit_subsets nss s = All-map (FullOk shape) (SubsetOk shape) (λ b p. p.fits) (map (subset_of sides) nss) (full_subsets nss s)

  pub subsets_are : ShapeOk shape → (nss : List (List ℕ)) → All (Boxed shape) nss → subsets_of sides (joined nss) ≡ map (subset_of sides) nss
  subsets_are sh nss s = subsets_joined sides sh.some_sides nss (sized_numbers nss s)

  pub many_boxes : ShapeOk shape → (nss : List (List ℕ)) → All (Boxed shape) nss → ManyOk shape (joined nss)
  many_boxes sh nss s = record {
    counted = ap (λ (n : ℕ). n % (2 * sides)) (length-joined (2 * sides) nss (sized_numbers nss s)) ∙ mul-mod_left (length nss) (2 * sides);
    each = subst (All (FullOk shape)) (sym (subsets_are sh nss s)) (full_subsets nss s);
  }

  -- each cell in exactly one subset: each cell stands once in the subsets' cells
  pub once_each : (bs : List Subset) → All (SubsetOk shape) bs → Covers shape bs → Once (volume shape) (cells_of_all shape bs)
  once_each bs fit o i h = count_all shape bs fit i h ∙ o i h
