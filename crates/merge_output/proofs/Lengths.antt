-- How long the merged content is: what the outputs' test asks.
-- Assumes nothing.
use mathlib.Core.Path.{◌≡◌, refl, sym, ap, ◌∙◌}
use Prim.Native.Nat.{ℕ, suc, ◌+◌, ◌*◌, ◌<◌}
use native.Mathlib.Omega.{arith}
use mathlib.Core.Bool.{Bool, true, false}
use mathlib.Core.List.{List, [], ◌∷◌, map}
use lib.ListN.{length, length-map}
use lib.Dec.{eqb}
use Rattle.array.specs.Places.{sum}
use Rattle.array.specs.Lists.{from, pick, count, joined, All}
use Rattle.array.specs.Kind.{Kind, Masks, fixed, Order, null_of}
use Rattle.array.specs.Offsets.{offsets_of}
use Rattle.array.specs.Shape.{volume}
use Rattle.array.specs.Subset.{Subset, SubsetOk, cells_of_all}
use Rattle.array.specs.Cells.{Value, Cell, leaf, blank}
use Rattle.array.specs.Content.{Content, masks_of, leaves, null_cell}
use Rattle.array.proofs.Lists.{All-of, All-image, length_from_lem, length-joined, map-from}
use Rattle.array.proofs.Sizes.{null_sized}
use Rattle.array.proofs.Offsets.{length-ends}
use Rattle.array.proofs.RestLaws.{leaf_blank}
use Rattle.array.proofs.LayoutLaws.{length-masks_of}
use Rattle.array.proofs.SubsetLaws.{all_below}
use Rattle.chunks.specs.Gather.{lookup, put_back, Once}
use Rattle.merge_stores.proofs.Blocks as blocks
use Rattle.merge_stores.proofs.FirstChunk.{Chunked, all_values}
use Rattle.merge_stores.proofs.Levels.{put_back-map, length_all}
use Rattle.merge_stores.proofs.Closing.{sum-put_back, cells_counted, fixed_cells}

-- ---- what stands at a place that stands in the list

lookup_any : {A : Type 0} (z y : A) (i : ℕ) (js : List ℕ) (xs : List A) → length js ≡ length xs → 0 < count i js → lookup z i js xs ≡ lookup y i js xs
lookup_any z y i [] xs e h = absurd (omega arith)
lookup_any z y i (j ∷ js) [] e h = absurd (omega arith)
lookup_any {A} z y i (j ∷ js) (x ∷ xs) e h = go (eqb i j) (lookup_any z y i js xs (omega arith)) h
  where
    go : (b : Bool) → (0 < count i js → lookup z i js xs ≡ lookup y i js xs) → 0 < pick b (suc (count i js)) (count i js)
        → pick b x (lookup z i js xs) ≡ pick b x (lookup y i js xs)
    go true ih h = refl
    go false ih h = ih h

put_back_any : {A : Type 0} (z y : A) (n : ℕ) (js : List ℕ) (xs : List A) → length js ≡ length xs → Once n js → put_back z n js xs ≡ put_back y n js xs
put_back_any z y n js xs e o =
    map-from (λ i. lookup z i js xs) (λ i. lookup y i js xs) 0 n (λ i h. lookup_any z y i js xs e (omega (arith, o i (omega arith))))

-- a rule that holds of each element holds of what is put back
pub lookup_all : {A : Type 0} (P : A → Type 0) (z : A) → P z → (js : List ℕ) (xs : List A) → All P xs → (i : ℕ) → P (lookup z i js xs)
lookup_all P z p [] xs q i = p
lookup_all P z p (j ∷ js) [] q i = p
lookup_all P z p (j ∷ js) (x ∷ xs) q i = go (eqb i j) (lookup_all P z p js xs q.1 i)
  where
    go : (b : Bool) → P (lookup z i js xs) → P (pick b x (lookup z i js xs))
    go true ih = q.0
    go false ih = ih

pub put_back_all : {A : Type 0} (P : A → Type 0) (z : A) → P z → (n : ℕ) (js : List ℕ) (xs : List A) → All P xs → All P (put_back z n js xs)
put_back_all P z p n js xs q = All-image P (λ i. lookup z i js xs) (from 0 n) (All-of (λ i. P (lookup z i js xs)) (lookup_all P z p js xs q) (from 0 n))

pub length-put_back : {A : Type 0} (z : A) (n : ℕ) (js : List ℕ) (xs : List A) → length (put_back z n js xs) ≡ n
length-put_back z n js xs = length-map (from 0 n) (λ i. lookup z i js xs) ∙ length_from_lem 0 n

-- ---- the merged cells

module _ {k : Kind} (sh : List ℕ) {bs : List Subset} (inside : All (SubsetOk sh) bs) (once : Once (volume sh) (cells_of_all sh bs)) {c : Content} {cs : List (Cell k.depth)}
    (e : Chunked k bs c cs) where
  abbrev js : List ℕ
  js = cells_of_all sh bs

  as_many : length js ≡ length cs
  as_many = length_all sh bs inside ∙ sym (cells_counted bs e)

  pub merged_masks : length (masks_of k.depth (put_back (null_cell k) (volume sh) (cells_of_all sh bs) cs)) ≡ k.depth * volume sh
  merged_masks = length-masks_of k.depth (put_back (null_cell k) (volume sh) js cs) ∙ ap (λ (n : ℕ). k.depth * n) (length-put_back (null_cell k) (volume sh) js cs)

  -- the merged values have the bytes of the chunks' values
  pub merged_bytes : length (joined (leaves k.depth (put_back (null_cell k) (volume sh) (cells_of_all sh bs) cs))) ≡ length c.values
  merged_bytes =
      let d : ℕ = k.depth in
      let z : Value = leaf d (null_cell k) in
      let el : length js ≡ length (map length (leaves d cs)) = as_many ∙ sym (length-map cs (leaf d)) ∙ sym (length-map (leaves d cs) length) in
      ap (λ (x : List Value). length (joined x)) (sym (put_back-map (leaf d) (null_cell k) (volume sh) js cs))
      ∙ blocks.length-joined (put_back z (volume sh) js (leaves d cs))
      ∙ ap sum (sym (put_back-map {A = Value} length z (volume sh) js (leaves d cs)) ∙ put_back_any (length z) 0 (volume sh) js (map length (leaves d cs)) el once)
      ∙ sum-put_back (volume sh) js (map length (leaves d cs)) (all_below sh bs inside) once el
      ∙ sym (blocks.length-joined (leaves d cs)) ∙ ap length (all_values bs e)

-- values of one width: as many bytes as cells of that width
pub fixed_bytes : (x : Masks) (k d : ℕ) (r : Order) (sh : List ℕ) {bs : List Subset} → All (SubsetOk sh) bs → Once (volume sh) (cells_of_all sh bs) → {c : Content} {cs : List (Cell d)}
    → Chunked (record { depth = d; masks = x; form = fixed k r }) bs c cs → length c.values ≡ volume sh * k
fixed_bytes x k d r sh {bs = bs} inside once {c} {cs} e =
    let z : Cell d = blank (null_of (fixed k r)) d in
    let vs : List Value = put_back (leaf d z) (volume sh) (cells_of_all sh bs) (leaves d cs) in
    let sized : All (λ v. length v ≡ k) vs =
    put_back_all (λ v. length v ≡ k) (leaf d z) (leaf_blank (null_of (fixed k r)) (λ v. length v ≡ k) d (null_sized (fixed k r))) (volume sh) (cells_of_all sh bs) (leaves d cs)
    (fixed_cells x k d r bs e).sized in
    sym (merged_bytes sh inside once e) ∙ ap (λ (y : List Value). length (joined y)) (sym (put_back-map (leaf d) z (volume sh) (cells_of_all sh bs) cs))
    ∙ length-joined k vs sized ∙ ap (λ (n : ℕ). n * k) (length-put_back (leaf d z) (volume sh) (cells_of_all sh bs) (leaves d cs))

-- ragged values: one offset more than cells
pub ragged_offsets : (d n : ℕ) (z : Cell d) (js : List ℕ) (cs : List (Cell d)) → length (offsets_of (leaves d (put_back z n js cs))) ≡ n + 1
ragged_offsets d n z js cs =
    let l : length (leaves d (put_back z n js cs)) ≡ n = length-map (put_back z n js cs) (leaf d) ∙ length-put_back z n js cs in
    omega (arith, length-ends 0 (leaves d (put_back z n js cs)))
