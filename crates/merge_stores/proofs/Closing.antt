-- The outputs after all stores are the layout of the merged cells.
-- Assumes nothing.
use mathlib.Core.Path.{◌≡◌, refl, sym, ap, ap₂, ◌∙◌, subst}
use Prim.Native.Nat.{ℕ, zero, suc, ◌+◌, ◌*◌, ◌<◌, ◌≤◌}
use native.Mathlib.Nat.{zero-add, mul-zero, one-mul}
use native.Mathlib.Omega.{arith}
use mathlib.Core.List.{List, [], ◌∷◌, ◌++◌, map}
use lib.ListN.{length, get_or, take, drop, length-append, length-map}
use Rattle.array.specs.Cells.{Value, Cell, leaf, blank}
use Rattle.array.specs.Content.{Content, leaves, values_in, cells_of, masks_of}
use Rattle.array.specs.Kind.{Kind, Masks, fixed, ragged, Order, Place}
use Rattle.array.specs.Lists.{All, joined, pieces, from, count}
use Rattle.array.specs.Offsets.{offsets_of}
use Rattle.array.specs.Shape.{volume}
use Rattle.array.specs.Subset.{Subset, lengths, cells_of_all, SubsetOk}
use Rattle.array.specs.Places.{fixed_at, offset_at, sum, sums}
use Rattle.array.proofs.LayoutLaws.{leaves-attach, length-attach, values_length_lem, values_sized}
use Rattle.array.proofs.Lists.{joined-append, joined-pieces, All-append, map-from, All-at}
use Rattle.array.proofs.SubsetLaws.{all_below}
use Rattle.array.proofs.Sums.{sum_of, sum-count}
use Rattle.chunks.specs.Chunks.{first_chunk}
use Rattle.chunks.specs.Gather.{lookup, put_back, Once}
use Rattle.chunks.proofs.Gather.{lookup_at}
use Rattle.merge_stores.specs.Ragged.{step_parts}
use Rattle.merge_stores.specs.Scatter.{scatter, places}
use Rattle.merge_stores.specs.Store.{parts, level_at, masks_merged, cells_total}
use Rattle.merge_stores.proofs.Blocks.{fixed_block}
use Rattle.merge_stores.proofs.FirstChunk.{Chunked, none_of, first_of, first_leaves, all_values}
use Rattle.merge_stores.proofs.Levels.{put_back-map, masks_put_back, chunk_levels, length_all}
use Rattle.merge_stores.proofs.RaggedMerge.{offsets_merged_lem, map_at, ragged_block}
use Rattle.merge_stores.proofs.RaggedTies.{ragged_lengths_lem}

-- ---- the sum of what is merged is the sum of what was there

sum_once_all : (f : ℕ → ℕ) (js : List ℕ) (a n : ℕ) → ((i : ℕ) → i < a + n → count i js ≡ 1) → sum_of (λ i. count i js * f i) (from a n) ≡ sum_of f (from a n)
sum_once_all f js a zero o = refl
sum_once_all f js a (suc n) o =
    ap₂ (λ (x y : ℕ). x + y) (ap (λ (k : ℕ). k * f a) (o a (omega arith)) ∙ one-mul (f a)) (sum_once_all f js (suc a) n (λ i h. o i (omega arith)))

pub sum-put_back : (n : ℕ) (js ls : List ℕ) → All (λ j. j < n) js → Once n js → length js ≡ length ls → sum (put_back 0 n js ls) ≡ sum ls
sum-put_back n js ls a o e =
    sym (sum_once_all (λ i. lookup 0 i js ls) js 0 n (λ i h. o i (omega arith))) ∙ sym (sum-count (λ i. lookup 0 i js ls) n js a)
    ∙ ap sum (map_at (λ i. lookup 0 i js ls) js ls e (λ i h. lookup_at 0 js ls i e h (o (get_or js i 0) (All-at (λ j. j < n) 0 js a i h))))

-- ---- masks

pub masks_close : {k : Kind} (v : Value) (sh : List ℕ) {bs : List Subset} {c : Content} {cs : List (Cell k.depth)} → Chunked k bs c cs
    → masks_of k.depth (put_back (blank v k.depth) (volume sh) (cells_of_all sh bs) cs) ≡ masks_merged sh bs k.depth c.masks k.depth
masks_close {k} v sh {bs = bs} {c} {cs} e =
    let d : ℕ = k.depth in
    masks_put_back v d (volume sh) (cells_of_all sh bs) cs
    ∙ ap joined (map-from (λ l. put_back 0 (volume sh) (cells_of_all sh bs) (level_at d l cs)) (λ l. put_back 0 (volume sh) (cells_of_all sh bs) (parts l d 1 bs c.masks)) 0 d
    (λ l h. ap (put_back 0 (volume sh) (cells_of_all sh bs)) (chunk_levels l (omega arith) bs e)))

-- ---- as many cells as the subsets have

pub cells_counted : {k : Kind} (bs : List Subset) {c : Content} {cs : List (Cell k.depth)} → Chunked k bs c cs → length cs ≡ cells_total bs
cells_counted [] e = ap length (none_of e).0
cells_counted {k} (b ∷ bs) {c} e =
    let m : ℕ = volume (lengths b) in
    let q = first_of e in
    let first : Content = first_chunk k m c in
    ap length q.whole ∙ length-append (cells_of k m first) q.later
    ∙ ap₂ (λ (x y : ℕ). x + y) (length-attach m (values_in k.form m first) (values_length_lem k.form m first q.ok.values_fit) k.depth first.masks q.ok.masks_fit)
    (cells_counted bs q.is_later)

-- ---- ragged values

module _ (x : Masks) (w d : ℕ) (p : Place) (sh : List ℕ) {bs : List Subset} (inside : All (SubsetOk sh) bs) (once : Once (volume sh) (cells_of_all sh bs)) {c : Content} {cs : List (Cell d)}
    (e : Chunked (record { depth = d; masks = x; form = ragged w p }) bs c cs) where
  abbrev js : List ℕ
  js = cells_of_all sh bs

  abbrev merged : List (Cell d)
  merged = put_back (blank [] d) (volume sh) (cells_of_all sh bs) cs

  leaf_blank : (d : ℕ) → leaf d (blank [] d) ≡ []
  leaf_blank zero = refl
  leaf_blank (suc d) = leaf_blank d

  leaves-merged : leaves d merged ≡ put_back [] (volume sh) js (leaves d cs)
  leaves-merged = sym (put_back-map (leaf d) (blank [] d) (volume sh) js cs) ∙ ap (λ (z : Value). put_back z (volume sh) js (leaves d cs)) (leaf_blank d)

  as_many : length js ≡ length (leaves d cs)
  as_many = length_all sh bs inside ∙ sym (length-map cs (leaf d) ∙ cells_counted bs e)

  -- the summed offsets are those of the merged values
  pub offsets_close : 0 ∷ sums 0 (put_back 0 (volume sh) js (step_parts bs c.offsets)) ≡ offsets_of (leaves d merged)
  offsets_close =
      ap (λ (y : List ℕ). 0 ∷ sums 0 (put_back 0 (volume sh) js y)) (sym (ragged_lengths_lem x w d p bs e)) ∙ sym (offsets_merged_lem (volume sh) js (leaves d cs)) ∙ ap offsets_of (sym leaves-merged)

  -- the values stored by those offsets are the merged values
  pub values_close : (t o : List ℕ) → length c.values ≤ length o
      → scatter o (places (offset_at ((0 ∷ sums 0 (put_back 0 (volume sh) js (step_parts bs c.offsets))) ++ t)) js) c.values
      ≡ joined (leaves d merged) ++ drop (length c.values) o
  values_close t o room =
      let el : map length (leaves d cs) ≡ step_parts bs c.offsets = ragged_lengths_lem x w d p bs e in
      let need : sum (put_back 0 (volume sh) js (map length (leaves d cs))) ≡ length c.values =
      sum-put_back (volume sh) js (map length (leaves d cs)) (all_below sh bs inside) once (as_many ∙ sym (length-map (leaves d cs) length))
      ∙ sym (Rattle.merge_stores.proofs.Blocks.length-joined (leaves d cs)) ∙ ap length (all_values bs e) in
      ap₂ (λ (y z : List ℕ). scatter o (places (offset_at ((0 ∷ sums 0 (put_back 0 (volume sh) js y)) ++ t)) js) z) (sym el) (sym (all_values bs e))
      ∙ ragged_block (volume sh) js (all_below sh bs inside) once (leaves d cs) t o as_many (omega (arith, need))
      ∙ ap₂ (λ (y : List Value) (k : ℕ). joined y ++ drop k o) (sym leaves-merged) need

-- ---- values of one width

module _ (x : Masks) (k d : ℕ) (r : Order) where
  abbrev kind : Kind
  kind = record { depth = d; masks = x; form = fixed k r }

  pub record FixedCells (bs : List Subset) (c : Content) (cs : List (Cell d)) : Type 0 where
    pub laid : joined (leaves d cs) ≡ parts 0 k k bs c.values
    pub sized : All (λ v. length v ≡ k) (leaves d cs)

  pub fixed_cells : (bs : List Subset) {c : Content} {cs : List (Cell d)} → Chunked kind bs c cs → FixedCells bs c cs
  fixed_cells [] {c} e = subst (FixedCells [] c) (sym (none_of e).0) (record { laid = refl; sized = tt })
  fixed_cells (b ∷ bs) {c} {cs} e =
      let m : ℕ = volume (lengths b) in
      let q = first_of e in
      let first : Content = first_chunk kind m c in
      let vs : List Value = pieces k m (take (m * k) c.values) in
      let el : leaves d (cells_of kind m first) ≡ vs = leaves-attach m vs (values_length_lem (fixed k r) m first q.ok.values_fit) d first.masks q.ok.masks_fit in
      let later = fixed_cells bs q.is_later in
      let whole : leaves d cs ≡ vs ++ leaves d q.later = first_leaves q ∙ ap (λ (y : List Value). y ++ leaves d q.later) el in
      record {
        laid = ap joined whole ∙ joined-append vs (leaves d q.later)
            ∙ ap₂ (λ (y z : List ℕ). y ++ z) (joined-pieces k m (take (m * k) c.values) q.ok.values_fit.0 ∙ ap (λ (n : ℕ). take (m * k) (drop n c.values)) (sym (mul-zero m))) later.laid;
        sized = subst (All (λ v. length v ≡ k)) (sym whole) (All-append (λ v. length v ≡ k) vs (leaves d q.later) (values_sized (fixed k r) m first q.ok.values_fit) later.sized);
      }

  -- the values stored are the merged values, whatever stands for a null cell
  pub fixed_close : (v : Value) (sh : List ℕ) {bs : List Subset} → All (SubsetOk sh) bs → Once (volume sh) (cells_of_all sh bs) → {c : Content} {cs : List (Cell d)} → Chunked kind bs c cs
      → (o : List ℕ) → volume sh * k ≤ length o
      → scatter o (places (fixed_at 0 k) (cells_of_all sh bs)) (parts 0 k k bs c.values) ≡ joined (leaves d (put_back (blank v d) (volume sh) (cells_of_all sh bs) cs)) ++ drop (volume sh * k) o
  fixed_close v sh {bs} inside once {c} {cs} e o room =
      let f = fixed_cells bs e in
      let as_many : length (cells_of_all sh bs) ≡ length (leaves d cs) = length_all sh bs inside ∙ sym (length-map cs (leaf d) ∙ cells_counted bs e) in
      ap (scatter o (places (fixed_at 0 k) (cells_of_all sh bs))) (sym f.laid)
      ∙ fixed_block 0 k (volume sh) o (leaf d (blank v d)) (cells_of_all sh bs) (leaves d cs) (omega arith) as_many (all_below sh bs inside) f.sized once
      ∙ ap₂ (λ (y : List Value) (n : ℕ). joined y ++ drop n o) (put_back-map (leaf d) (blank v d) (volume sh) (cells_of_all sh bs) cs) (zero-add (volume sh * k))
