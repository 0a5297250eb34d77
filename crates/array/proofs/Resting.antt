-- Cells that were laid out: a valid array, and, where each cell is in rest form, its own rest form. So the rest form of an array is one, cell by cell.
-- Assumes nothing.
use mathlib.Core.Path.{◌≡◌, refl, sym, ap, ap₂, ◌∙◌}
use Prim.Native.Nat.{ℕ, ◌≤◌, ◌<◌}
use native.Mathlib.Nat.{le_refl}
use native.Mathlib.Omega.{arith}
use mathlib.Core.List.{List, [], ◌∷◌, map}
use lib.ListN.{length, get_or, length-map}
use Rattle.array.specs.Limits.{most_bytes}
use Rattle.array.specs.Lists.{from, All}
use Rattle.array.specs.Kind.{Kind, KindOk, Form, null_of}
use Rattle.array.specs.Shape.{volume, ShapeOk}
use Rattle.array.specs.Cells.{Value, Cell, leaf, rest}
use Rattle.array.specs.Content.{Content, ArrayOk, Valid, layout, cells_of, null_cell, rest_form}
use Rattle.array.specs.Places.{cell_at}
use Rattle.array.proofs.Lists.{map-map, entry, All-map, All-image, All-of}
use Rattle.array.proofs.Sums.{sum_of_map, sum-le}
use Rattle.array.proofs.Sizes.{OfSize, null_sized, null_least}
use Rattle.array.proofs.LayoutLaws.{Good, bytes_sum, All-leaves, good_cells, good_layout, cells_layout}
use Rattle.array.proofs.RestLaws.{leaf_rest, rest_again, StrictCell, strict_rest}
use Rattle.array.proofs.Numbered.{cells_are, cell_is}

pub laid_valid : {k : Kind} {shape : List ℕ} {cs : List (Cell k.depth)} → KindOk k → ShapeOk shape → Good k (volume shape) cs
    → Valid k shape (layout k.form k.depth cs)
laid_valid {k} {shape} {cs} ok sh g =
    record { kind = ok; shaped = sh; content = good_layout k (volume shape) cs g; small = g.small }

pub map_same : {A : Type 0} (f : A → A) (xs : List A) → All (λ x. f x ≡ x) xs → map f xs ≡ xs
map_same f [] p = refl
map_same {A} f (x ∷ xs) p = ap₂ (λ (y : A) (r : List A). y ∷ r) p.0 (map_same f xs p.1)

pub same_map : {A : Type 0} (f : A → A) (xs : List A) → map f xs ≡ xs → All (λ x. f x ≡ x) xs
same_map f [] e = tt
same_map f (x ∷ xs) e = (cc, same_map f xs cc)

-- a cell that is in rest form
abbrev pub Rests : (k : Kind) → Cell k.depth → Type 0
Rests k c = rest (null_of k.form) k.depth c ≡ c

pub laid_rests : {k : Kind} {n : ℕ} {cs : List (Cell k.depth)} → Good k n cs → All (Rests k) cs
    → rest_form k n (layout k.form k.depth cs) ≡ layout k.form k.depth cs
laid_rests {k} {n} {cs} g r =
    ap (λ (xs : List (Cell k.depth)). layout k.form k.depth (map (rest (null_of k.form) k.depth) xs)) (cells_layout k n cs g.counted g.sized)
    ∙ ap (layout k.form k.depth) (map_same (rest (null_of k.form) k.depth) cs r)

-- ---- the rest form of an array

-- good cells stay good
pub good_rest : (k : Kind) (n : ℕ) (cs : List (Cell k.depth)) → Good k n cs → Good k n (map (rest (null_of k.form) k.depth) cs)
good_rest k n cs g =
    let d : ℕ = k.depth in
    let f : Form = k.form in
    let z : Value = null_of f in
    let one : All (λ (c : Cell d). OfSize f (leaf d c)) cs = All-leaves (OfSize f) d cs g.sized in
    record {
      counted = length-map cs (rest z d) ∙ g.counted;
      sized = All-image (OfSize f) (leaf d) (map (rest z d) cs)
          (All-image (λ (c : Cell d). OfSize f (leaf d c)) (rest z d) cs
          (All-map (λ (c : Cell d). OfSize f (leaf d c)) (λ (c : Cell d). OfSize f (leaf d (rest z d c))) (λ c p. leaf_rest z (OfSize f) d c (null_sized f) p) cs one));
      small = omega (
        arith,
        g.small,
        bytes_sum d cs,
        bytes_sum d (map (rest z d) cs),
        sum_of_map (rest z d) (λ (c : Cell d). length (leaf d c)) cs,
        sum-le (λ (c : Cell d). length (leaf d (rest z d c))) (λ (c : Cell d). length (leaf d c)) cs
            (All-map (λ (c : Cell d). OfSize f (leaf d c)) (λ (c : Cell d). length (leaf d (rest z d c)) ≤ length (leaf d c))
            (λ c p. leaf_rest z (λ v. length v ≤ length (leaf d c)) d c (null_least f (leaf d c) p) (le_refl (length (leaf d c)))) cs one),
      );
      strict = All-image (StrictCell d) (rest z d) cs (All-map (StrictCell d) (λ (c : Cell d). StrictCell d (rest z d c)) (strict_rest z d) cs g.strict);
    }

module _ {k : Kind} {n : ℕ} {c : Content} (ok : ArrayOk k n c) (small : length c.values ≤ most_bytes) where
  abbrev z : Value
  z = null_of k.form

  good_rested : Good k n (map (rest z k.depth) (cells_of k n c))
  good_rested = good_rest k n (cells_of k n c) (good_cells k n c ok small)

  pub rest_ok : ArrayOk k n (rest_form k n c)
  rest_ok = good_layout k n (map (rest z k.depth) (cells_of k n c)) good_rested

  pub rest_small : length (rest_form k n c).values ≤ most_bytes
  rest_small = good_rested.small

  -- each cell is that of the array in rest form
  pub rest_cell : (j : ℕ) → j < n → cell_at k n (rest_form k n c) j ≡ rest z k.depth (cell_at k n c j)
  rest_cell j h =
      let cs : List (Cell k.depth) = map (rest z k.depth) (cells_of k n c) in
      let numbered : cs ≡ map (λ i. rest z k.depth (cell_at k n c i)) (from 0 n) =
      ap (map (rest z k.depth)) (cells_are ok.fits) ∙ map-map (cell_at k n c) (rest z k.depth) (from 0 n) in
      sym (cell_is rest_ok.fits (null_cell k) j h)
      ∙ ap (λ (xs : List (Cell k.depth)). get_or xs j (null_cell k)) (cells_layout k n cs good_rested.counted good_rested.sized)
      ∙ entry (λ i. rest z k.depth (cell_at k n c i)) n numbered (null_cell k) j h

  pub rest_rests : rest_form k n (rest_form k n c) ≡ rest_form k n c
  rest_rests = laid_rests good_rested (All-image (Rests k) (rest z k.depth) (cells_of k n c) (All-of (λ x. Rests k (rest z k.depth x)) (rest_again z k.depth) (cells_of k n c)))
