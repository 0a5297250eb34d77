-- The cells of a subset, and subsets as numbers.
-- Assumes nothing.
use mathlib.Core.Path.{◌≡◌, refl, sym, ap, ap₂, ◌∙◌}
use Prim.Native.Nat.{ℕ, zero, suc, ◌+◌, ◌*◌, ◌/◌, ◌<◌, ◌≤◌}
use native.Mathlib.Nat.{zero-mul, suc-mul, le_refl, le_trans, mul-le-mul, mul-le-mul_right, mul-div_cancel}
use native.Mathlib.Omega.{arith}
use mathlib.Core.List.{List, [], ◌∷◌, map}
use lib.ListN.{length, take, drop, length-append, length-map, length-drop}
use lib.Seq.{length-take-le}
use Rattle.array.specs.Lists.{from, joined, pieces, All}
use Rattle.array.specs.Shape.{volume, ShapeOk}
use Rattle.array.specs.Subset.{Subset, lengths, pairs, subset_of, subsets_of, SubsetOk, rows, cells_in, cells_of_all}
use Rattle.array.proofs.Lists.{Sized, All-append, All-image, All-map, length_from_lem, length-joined, pieces-joined}

pub length-rows : (v : ℕ) (is js : List ℕ) → length (rows v is js) ≡ length is * length js
length-rows v [] js = sym (zero-mul (length js))
length-rows v (i ∷ is) js =
    omega (arith, length-append (map (λ j. i * v + j) js) (rows v is js), length-map js (λ j. i * v + j), length-rows v is js, suc-mul (length is) (length js))

-- a subset has as many cells as its lengths say
pub length-cells_in : (shape : List ℕ) (b : Subset) → SubsetOk shape b → length (cells_in shape b) ≡ volume (lengths b)
length-cells_in [] [] p = refl
length-cells_in [] (b ∷ bs) p = absurd p
length-cells_in (s ∷ ss) [] p = absurd p
length-cells_in (s ∷ ss) (b ∷ bs) p =
    length-rows (volume ss) (from b.0 b.1) (cells_in ss bs)
    ∙ ap₂ (λ (m n : ℕ). m * n) (length_from_lem b.0 b.1) (length-cells_in ss bs p.1)

rows_below : (s v : ℕ) (a n : ℕ) (js : List ℕ) → a + n ≤ s → All (λ j. j < v) js → All (λ j. j < s * v) (rows v (from a n) js)
rows_below s v a zero js h p = tt
rows_below s v a (suc n) js h p =
    All-append (λ j. j < s * v) (map (λ j. a * v + j) js) (rows v (from (suc a) n) js)
    (All-image (λ j. j < s * v) (λ j. a * v + j) js
    (All-map (λ j. j < v) (λ j. a * v + j < s * v) (λ j l. omega (arith, mul-le-mul_right {m = suc a} {n = s} v (omega arith), suc-mul a v)) js p))
    (rows_below s v (suc a) n js (omega arith) p)

-- they are cells of the shape
pub cells_in_below : (shape : List ℕ) (b : Subset) → SubsetOk shape b → All (λ j. j < volume shape) (cells_in shape b)
cells_in_below [] [] p = (le_refl 1, tt)
cells_in_below [] (b ∷ bs) p = absurd p
cells_in_below (s ∷ ss) [] p = absurd p
cells_in_below (s ∷ ss) (b ∷ bs) p = rows_below s (volume ss) b.0 b.1 (cells_in ss bs) p.0 (cells_in_below ss bs p.1)

pub all_below : (shape : List ℕ) (bs : List Subset) → All (SubsetOk shape) bs → All (λ j. j < volume shape) (cells_of_all shape bs)
all_below shape [] p = tt
all_below shape (b ∷ bs) p = All-append (λ j. j < volume shape) (cells_in shape b) (cells_of_all shape bs) (cells_in_below shape b p.0) (all_below shape bs p.1)

-- the lengths of a subset that holds a cell are a shape
pub length-lengths : (shape : List ℕ) (b : Subset) → SubsetOk shape b → length (lengths b) ≡ length shape
length-lengths [] [] p = refl
length-lengths [] (b ∷ bs) p = absurd p
length-lengths (s ∷ ss) [] p = absurd p
length-lengths (s ∷ ss) (b ∷ bs) p = ap suc (length-lengths ss bs p.1)

pub volume-le : (shape : List ℕ) (b : Subset) → SubsetOk shape b → volume (lengths b) ≤ volume shape
volume-le [] [] p = le_refl 1
volume-le [] (b ∷ bs) p = absurd p
volume-le (s ∷ ss) [] p = absurd p
volume-le (s ∷ ss) (b ∷ bs) p = mul-le-mul {n₁ = b.1} {n₂ = s} (omega (arith, p.0)) (volume-le ss bs p.1)

pub subset_shape : (shape : List ℕ) (b : Subset) → ShapeOk shape → SubsetOk shape b → All (λ n. 1 ≤ n) (lengths b) → ShapeOk (lengths b)
subset_shape shape b s p f = record {
  some_sides = omega (arith, length-lengths shape b p, s.some_sides);
  few_sides = omega (arith, length-lengths shape b p, s.few_sides);
  sides = f;
  few_cells = le_trans (volume-le shape b p) s.few_cells;
}

-- ---- subsets as numbers

pub lengths-pairs : (as' ls : List ℕ) → length as' ≡ length ls → lengths (pairs as' ls) ≡ ls
lengths-pairs [] [] e = refl
lengths-pairs [] (l ∷ ls) e = absurd (omega arith)
lengths-pairs (a ∷ as') [] e = absurd (omega arith)
lengths-pairs (a ∷ as') (l ∷ ls) e = ap (λ (x : List ℕ). l ∷ x) (lengths-pairs as' ls (omega arith))

pub lengths_subset : (r : ℕ) (ns : List ℕ) → length ns ≡ 2 * r → lengths (subset_of r ns) ≡ drop r ns
lengths_subset r ns e = lengths-pairs (take r ns) (drop r ns) (omega (arith, length-take-le r ns (omega (arith, e)), length-drop r ns, e))

pub subsets_joined : (r : ℕ) → 1 ≤ r → (nss : List (List ℕ)) → Sized (2 * r) nss → subsets_of r (joined nss) ≡ map (subset_of r) nss
subsets_joined r h nss p =
    ap (λ (n : ℕ). map (subset_of r) (pieces (2 * r) n (joined nss)))
    (ap (λ (n : ℕ). n / (2 * r)) (length-joined (2 * r) nss p) ∙ mul-div_cancel (length nss) (omega arith))
    ∙ ap (map (subset_of r)) (pieces-joined (2 * r) nss p)
