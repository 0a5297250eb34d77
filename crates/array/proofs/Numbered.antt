-- The cells of an array by their numbers: cell j has the mask bytes and the value that lie at its places, and so has what is laid out.
-- Assumes nothing.
use mathlib.Core.Path.{◌≡◌, refl, sym, ap, ap₂, ◌∙◌, subst}
use Prim.Native.Nat.{ℕ, zero, suc, ◌+◌, ◌-◌, ◌*◌, ◌≤◌, ◌<◌}
use native.Mathlib.Nat.{zero-mul, suc-mul, add-mul, mul-one, zero-add}
use native.Mathlib.Omega.{arith}
use mathlib.Core.Bool.{Bool, true, false}
use mathlib.Core.List.{List, [], ◌∷◌, ◌++◌, map}
use lib.ListN.{length, take, drop, get_or, length-drop, length-map}
use lib.Seq.{drop-drop, drop-cons, get_or-take, get_or-drop, length-take-le}
use Rattle.array.specs.Lists.{from, pick, joined, pieces, All}
use Rattle.array.specs.Kind.{Kind, Form, fixed, ragged, null_of}
use Rattle.array.specs.Cells.{Value, Cell, leaf, rest}
use Rattle.array.specs.Content.{Content, ValuesOk, ContentOk, masks_of, leaves, offsets_for, layout, pair_up, attach, values_in, cells_of, null_cell, rest_form}
use Rattle.array.specs.Offsets.{slices, slices_from}
use Rattle.array.specs.Places.{fixed_at, offset_at, value_at, value_in, values_at, mask_at, masks_at, planes_by, planes_at, cell_by, shown_at, cell_at, laid_by}
use Rattle.array.proofs.Lists.{from_suc, entry, by_number, map_below, map-map, map_cong, length_from_lem, All-image, All-get_or}
use Rattle.array.proofs.Geometry.{All-from}
use Rattle.array.proofs.Sizes.{OfSize, null_sized}
use Rattle.array.proofs.LayoutLaws.{content_path, mask_map, cells_layout, values_sized}
use Rattle.array.proofs.RestLaws.{leaf_by, leaf_blank, hidden_by_lem, rest_by_lem}
use Rattle.array.proofs.Places.{fixed_value}

-- ---- values

-- pieces of one size, from cell a on
pub pieces_are : (base k n a : ℕ) (s : List ℕ) {at : ℕ} → base + a * k ≡ at → pieces k n (drop at s) ≡ values_at (fixed_at base k) s (from a n)
pieces_are base k zero a s e = refl
pieces_are base k (suc n) a s {at} e =
    ap₂ (λ (v : Value) (vs : List Value). v ∷ vs) (sym (fixed_value base k s a e))
    (ap (pieces k n) (drop-drop k at s) ∙ pieces_are base k n (suc a) s {at = at + k} (omega (arith, suc-mul a k)))

slices_are : (a : ℕ) (os s : List ℕ) → slices_from a os s ≡ values_at (offset_at (a ∷ os)) s (from 0 (length os))
slices_are a [] s = refl
slices_are a (b ∷ bs) s =
    ap (λ (vs : List Value). take (b - a) (drop a s) ∷ vs) (slices_are b bs s ∙ sym (from_suc (value_at (offset_at (a ∷ b ∷ bs)) s) 0 (length bs)))

pub values_are : (f : Form) (n : ℕ) (c : Content) → ValuesOk f n c → values_in f n c ≡ map (value_in f c) (from 0 n)
values_are (fixed k o) n c p = pieces_are 0 k n 0 c.values {at = 0} (omega (arith, zero-mul k))
values_are (ragged w q) n c p = go c.offsets p.0
  where
    go : (os : List ℕ) → length os ≡ suc n → slices os c.values ≡ values_at (offset_at os) c.values (from 0 n)
    go [] e = absurd (omega arith)
    go (a ∷ bs) e = let q : length bs ≡ n = omega arith in slices_are a bs c.values ∙ ap (λ (m : ℕ). values_at (offset_at (a ∷ bs)) c.values (from 0 m)) q

pub value_is : (f : Form) (n : ℕ) (c : Content) → ValuesOk f n c → (z : Value) (j : ℕ) → j < n → get_or (values_in f n c) j z ≡ value_in f c j
value_is f n c p = entry (value_in f c) n (values_are f n c p)

pub value_sized : (f : Form) (n : ℕ) (c : Content) → ValuesOk f n c → (j : ℕ) → j < n → OfSize f (value_in f c j)
value_sized f n c p j h =
    subst (OfSize f) (value_is f n c p (null_of f) j h) (All-get_or (OfSize f) (null_of f) (null_sized f) (values_in f n c) (values_sized f n c p) j)

-- ---- mask bytes

-- the plane of level l
pub plane_is : (n : ℕ) (masks : List ℕ) (l : ℕ) → l * n + n ≤ length masks → take n (drop (l * n) masks) ≡ masks_at n masks l (from 0 n)
plane_is n masks l h =
    let ps : List ℕ = drop (l * n) masks in
    by_number 0 (mask_at n masks l) (take n ps) (length-take-le n ps (omega (arith, length-drop (l * n) masks)))
    (λ i h. get_or-take n ps i 0 h ∙ get_or-drop (l * n) masks i 0)

-- a mask byte is a cell of one byte
pub mask_bytes : (n : ℕ) (masks : List ℕ) (l : ℕ) → l * n + n ≤ length masks → (js : List ℕ) → All (λ j. j < n) js
    → joined (values_at (fixed_at (l * n) 1) masks js) ≡ masks_at n masks l js
mask_bytes n masks l h [] p = refl
mask_bytes n masks l h (j ∷ js) p =
    let one : value_at (fixed_at (l * n) 1) masks j ≡ mask_at n masks l j ∷ [] =
    fixed_value (l * n) 1 masks j {at = l * n + j} (omega (arith, mul-one j)) ∙ ap (take 1) (drop-cons masks (l * n + j) 0 (omega (arith, p.0))) in
    ap₂ (λ (v r : List ℕ). v ++ r) one (mask_bytes n masks l h js p.1)

pub planes_are : (n : ℕ) (masks js : List ℕ) → All (λ j. j < n) js → (d l : ℕ) → (l + d) * n ≤ length masks → planes_at d l n masks js ≡ planes_by (mask_at n masks) d l js
planes_are n masks js p zero l e = refl
planes_are n masks js p (suc d) l e =
    ap₂ (λ (a b : List ℕ). a ++ b) (mask_bytes n masks l (omega (arith, suc-mul (l + d) n, add-mul l d n)) js p)
    (planes_are n masks js p d (suc l) (omega arith))

-- ---- the cells of an array

pair_up-map : {A : Type 0} (f : ℕ → ℕ) (g : ℕ → A) (js : List ℕ) → pair_up (map f js) (map g js) ≡ map (λ j. (f j, g j)) js
pair_up-map f g [] = refl
pair_up-map {A} f g (j ∷ js) = ap (λ (r : List (ℕ × A)). (f j, g j) ∷ r) (pair_up-map f g js)

module _ (n : ℕ) (masks : List ℕ) (v : ℕ → Value) where
  attach_by : (d l : ℕ) → length masks ≡ (l + d) * n
      → attach d n (drop (l * n) masks) (map v (from 0 n)) ≡ map (λ j. cell_by (λ i. mask_at n masks i j) (v j) d l) (from 0 n)
  attach_by zero l e = refl
  attach_by (suc d) l e =
      ap₂ (λ (ms : List ℕ) (ps : List ℕ). pair_up ms (attach d n ps (map v (from 0 n)))) (plane_is n masks l (omega (arith, suc-mul (l + d) n, add-mul l d n)))
      (drop-drop n (l * n) masks ∙ ap (λ (m : ℕ). drop m masks) (sym (suc-mul l n)))
      ∙ ap (pair_up (masks_at n masks l (from 0 n))) (attach_by d (suc l) (omega arith))
      ∙ pair_up-map (mask_at n masks l) (λ j. cell_by (λ i. mask_at n masks i j) (v j) d (suc l)) (from 0 n)

module _ {k : Kind} {n : ℕ} {c : Content} (ok : ContentOk k n c) where
  pub cells_are : cells_of k n c ≡ map (cell_at k n c) (from 0 n)
  cells_are =
      ap₂ (λ (ps : List ℕ) (vs : List Value). attach k.depth n ps vs) (ap (λ (m : ℕ). drop m c.masks) (sym (zero-mul n))) (values_are k.form n c ok.values_fit)
      ∙ attach_by n c.masks (value_in k.form c) k.depth 0 (ok.masks_fit ∙ ap (λ (m : ℕ). m * n) (sym (zero-add k.depth)))

  pub cell_is : (z : Cell k.depth) (j : ℕ) → j < n → get_or (cells_of k n c) j z ≡ cell_at k n c j
  cell_is = entry (cell_at k n c) n cells_are

  -- the cells at any places
  pub cells_at_lem : (z : Cell k.depth) (js : List ℕ) → All (λ j. j < n) js → map (λ j. get_or (cells_of k n c) j z) js ≡ map (cell_at k n c) js
  cells_at_lem z js p = map_below (λ j. get_or (cells_of k n c) j z) (cell_at k n c) n (cell_is z) js p

-- ---- what is laid out: cell j has the mask byte m l j at level l, and the value v j

module _ (m : ℕ → ℕ → ℕ) (v : ℕ → Value) (js : List ℕ) where
  masks_laid : (d l : ℕ) → masks_of d (map (λ j. cell_by (λ i. m i j) (v j) d l) js) ≡ planes_by m d l js
  masks_laid zero l = refl
  masks_laid (suc d) l =
      ap₂ (λ (a b : List ℕ). a ++ b) (mask_map (map (λ j. cell_by (λ i. m i j) (v j) (suc d) l) js) ∙ map-map (λ j. cell_by (λ i. m i j) (v j) (suc d) l) (λ c. c.0) js)
      (ap (masks_of d) (map-map (λ j. cell_by (λ i. m i j) (v j) (suc d) l) (λ c. c.1) js) ∙ masks_laid d (suc l))

  leaves_laid : (d : ℕ) → leaves d (map (λ j. cell_by (λ l. m l j) (v j) d 0) js) ≡ map v js
  leaves_laid d =
      map-map (λ j. cell_by (λ l. m l j) (v j) d 0) (leaf d) js
      ∙ map_cong (λ j. leaf d (cell_by (λ l. m l j) (v j) d 0)) v (λ j. leaf_by (λ l. m l j) (v j) d 0) js

pub laid_is : (f : Form) (d : ℕ) (g : ℕ → Cell d) (m : ℕ → ℕ → ℕ) (v : ℕ → Value) → ((j : ℕ) → g j ≡ cell_by (λ l. m l j) (v j) d 0) → (js : List ℕ)
    → layout f d (map g js) ≡ laid_by f d m v js
laid_is f d g m v e js =
    ap (layout f d) (map_cong g (λ j. cell_by (λ l. m l j) (v j) d 0) e js)
    ∙ content_path (masks_laid m v js d 0) (ap joined (leaves_laid m v js d)) (ap (offsets_for f) (leaves_laid m v js d))

-- cell j of what is laid out is g j
pub laid_cell : (k : Kind) (n : ℕ) (g : ℕ → Cell k.depth) → ((j : ℕ) → j < n → OfSize k.form (leaf k.depth (g j))) → (z : Cell k.depth) (j : ℕ) → j < n
    → get_or (cells_of k n (layout k.form k.depth (map g (from 0 n)))) j z ≡ g j
laid_cell k n g s =
    let P : Cell k.depth → Type 0 = λ c. OfSize k.form (leaf k.depth c) in
    let sized : All P (map g (from 0 n)) = All-image P g (from 0 n) (All-from (λ j. P (g j)) 0 n (λ j a b. s j (omega arith))) in
    entry g n (cells_layout k n (map g (from 0 n)) (length-map (from 0 n) g ∙ length_from_lem 0 n) (All-image (OfSize k.form) (leaf k.depth) (map g (from 0 n)) sized))

-- ---- shown or hidden

-- cell j of the result is cell f j of the array where the test t shows it, else null: by its parts, and by its cells
pub shown_is : (k : Kind) (n : ℕ) (c : Content) (f : ℕ → ℕ) (t : ℕ → Bool) (js : List ℕ)
    → layout k.form k.depth (map (λ j. pick (t j) (cell_at k n c (f j)) (null_cell k)) js)
    ≡ laid_by k.form k.depth (λ l j. pick (t j) (mask_at n c.masks l (f j)) 0) (λ j. pick (t j) (value_in k.form c (f j)) (null_of k.form)) js
shown_is k n c f t js =
    laid_is k.form k.depth (λ j. pick (t j) (cell_at k n c (f j)) (null_cell k))
    (λ l j. pick (t j) (mask_at n c.masks l (f j)) 0) (λ j. pick (t j) (value_in k.form c (f j)) (null_of k.form))
    (λ j. hidden_by_lem (null_of k.form) (λ l. mask_at n c.masks l (f j)) (value_in k.form c (f j)) k.depth 0 (t j)) js

pub shown_cell : {k : Kind} {n : ℕ} {c : Content} → ContentOk k n c → (f : ℕ → ℕ) (t : ℕ → Bool) (m : ℕ) → ((j : ℕ) → j < m → f j < n) → (z : Cell k.depth) (j : ℕ) → j < m
    → get_or (cells_of k m (layout k.form k.depth (map (λ i. pick (t i) (cell_at k n c (f i)) (null_cell k)) (from 0 m)))) j z ≡ pick (t j) (cell_at k n c (f j)) (null_cell k)
shown_cell {k} {n} {c} ok f t m e = laid_cell k m (λ i. pick (t i) (cell_at k n c (f i)) (null_cell k)) (λ i h. sized (t i) (f i) (e i h))
  where
    sized : (b : Bool) (i : ℕ) → i < n → OfSize k.form (leaf k.depth (pick b (cell_at k n c i) (null_cell k)))
    sized true i h = subst (OfSize k.form) (sym (leaf_by (λ l. mask_at n c.masks l i) (value_in k.form c i) k.depth 0)) (value_sized k.form n c ok.values_fit i h)
    sized false i h = leaf_blank (null_of k.form) (OfSize k.form) k.depth (null_sized k.form)

-- the rest form: each mask byte where it is shown, and the value where all levels show it
pub rest_laid : {k : Kind} {n : ℕ} {c : Content} → ContentOk k n c
    → rest_form k n c ≡ laid_by k.form k.depth (λ l j. pick (shown_at n c.masks l j) (mask_at n c.masks l j) 0)
    (λ j. pick (shown_at n c.masks k.depth j) (value_in k.form c j) (null_of k.form)) (from 0 n)
rest_laid {k} {n} {c} ok =
    let z : Value = null_of k.form in
    ap (λ (cs : List (Cell k.depth)). layout k.form k.depth (map (rest z k.depth) cs)) (cells_are ok)
    ∙ ap (layout k.form k.depth) (map-map (cell_at k n c) (rest z k.depth) (from 0 n))
    ∙ laid_is k.form k.depth (λ j. rest z k.depth (cell_at k n c j))
    (λ l j. pick (shown_at n c.masks l j) (mask_at n c.masks l j) 0) (λ j. pick (shown_at n c.masks k.depth j) (value_in k.form c j) z)
    (λ j. rest_by_lem z (λ l. mask_at n c.masks l j) (value_in k.form c j) k.depth) (from 0 n)
