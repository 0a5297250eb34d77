-- The lengths of a chunk list's ragged values, by its offsets, and that places which step by them agree with the offsets.
-- Assumes nothing.
use mathlib.Core.Path.{◌≡◌, refl, sym, ap, ap₂, ◌∙◌}
use Prim.Native.Nat.{ℕ, zero, suc, ◌+◌, ◌<◌, ◌≤◌}
use native.Mathlib.Nat.{min-le_right}
use native.Mathlib.Omega.{arith}
use mathlib.Core.List.{List, [], ◌∷◌, ◌++◌, map}
use lib.ListN.{length, get_or, take, drop, length-take, length-map, length-append}
use lib.Seq.{take_at, drop_at, length-take-le, get_or-take}
use Rattle.array.specs.Cells.{Cell}
use Rattle.array.specs.Content.{Content, ContentOk, leaves, values_in, cells_of}
use Rattle.array.specs.Kind.{Kind, Masks, ragged, Place}
use Rattle.array.specs.Offsets.{last, Rising}
use Rattle.array.specs.Shape.{volume}
use Rattle.array.specs.Lists.{All, from}
use Rattle.array.specs.Subset.{Subset, lengths, cells_in, cells_of_all, SubsetOk}
use Rattle.array.specs.Places.{offset_at, Rises, step_at, bytes_at, value_in, sum, steps_at}
use Rattle.array.proofs.Offsets.{last_at}
use Rattle.array.proofs.Lists.{map-append, map-map, map-from}
use Rattle.array.proofs.Places.{offsets_rise, first_zero, run_total, value_long, begins_rise, begins_end}
use Rattle.array.proofs.LayoutLaws.{leaves-attach, values_length_lem}
use Rattle.array.proofs.Numbered.{values_are}
use Rattle.array.proofs.SubsetLaws.{length-cells_in}
use Rattle.chunks.specs.Chunks.{first_chunk}
use Rattle.merge_stores.specs.Ragged.{LengthChunks, RaggedChunks, step_parts}
use Rattle.merge_stores.specs.Store.{cells_total}
use Rattle.merge_stores.proofs.Blocks.{map-take}
use Rattle.merge_stores.proofs.FirstChunk.{Chunked, none_of, first_of, first_leaves}
use Rattle.merge_stores.proofs.RaggedMerge.{many_from}

-- ---- offsets, and the lengths between them

-- the last of m + 1 offsets
pub last-take : (os : List ℕ) (m : ℕ) → m < length os → last (take (suc m) os) ≡ get_or os m 0
last-take os m h = last_at (take (suc m) os) m (length-take-le (suc m) os h) ∙ get_or-take (suc m) os m 0 (omega arith)

-- a part of what goes by numbers
pub part-from : (f : ℕ → ℕ) (a b m n k : ℕ) → a + m ≡ b → m + n ≤ k → take n (drop m (map f (from a k))) ≡ map f (from b n)
part-from f a b zero zero k e h = refl
part-from f a b zero (suc n) zero e h = absurd (omega arith)
part-from f a b zero (suc n) (suc k) e h =
    let q : a ≡ b = omega arith in
    ap₂ (λ (x : ℕ) (r : List ℕ). x ∷ r) (ap f q) (part-from f (suc a) (suc b) zero n k (omega arith) (omega arith))
part-from f a b (suc m) n zero e h = absurd (omega arith)
part-from f a b (suc m) n (suc k) e h = part-from f (suc a) b m n k (omega arith) (omega arith)

-- the first m + 1 offsets never fall
pub rises_of : (m : ℕ) (os : List ℕ) → Rising (take (suc m) os) → m < length os → Rises (offset_at os) m
rises_of m os r h j l =
    omega (
      arith,
      offsets_rise (take (suc m) os) r (length-take-le (suc m) os h) j l,
      get_or-take (suc m) os j 0 (omega arith),
      get_or-take (suc m) os (suc j) 0 (omega arith),
    )

-- ---- chunk by chunk

-- as many lengths as cells
pub length_steps : (bs : List Subset) (os : List ℕ) → length (step_parts bs os) ≡ cells_total bs
length_steps [] os = refl
length_steps (b ∷ bs) os =
    let m : ℕ = volume (lengths b) in
    length-append (steps_at (offset_at os) (from 0 m)) (step_parts bs (drop (suc m) os))
    ∙ ap₂ (λ (x y : ℕ). x + y) (many_from (step_at (offset_at os)) 0 m) (length_steps bs (drop (suc m) os))

-- lists with equal parts
split_same : (xs ys zs ws : List ℕ) → length xs ≡ length zs → xs ++ ys ≡ zs ++ ws → (xs ≡ zs) × (ys ≡ ws)
split_same xs ys zs ws l e =
    (sym (take_at xs ys (length zs) l) ∙ ap (take (length zs)) e ∙ take_at zs ws (length zs) refl, sym (drop_at xs ys (length zs) l) ∙ ap (drop (length zs)) e ∙ drop_at zs ws (length zs) refl)

-- places that step by the chunks' lengths agree with their offsets
pub chunks_agree : (begins sh : List ℕ) (bs : List Subset) → All (SubsetOk sh) bs → (os : List ℕ) → LengthChunks bs os
    → steps_at (offset_at begins) (cells_of_all sh bs) ≡ step_parts bs os → RaggedChunks begins sh bs os
chunks_agree begins sh [] inside os l e = tt
chunks_agree begins sh (b ∷ bs) inside os l e =
    let m : ℕ = volume (lengths b) in
    let cs : List ℕ = cells_in sh b in
    let f : ℕ → ℕ = step_at (offset_at begins) in
    let lc : length cs ≡ m = length-cells_in sh b inside.0 in
    let p = split_same (map f cs) (map f (cells_of_all sh bs)) (steps_at (offset_at os) (from 0 m)) (step_parts bs (drop (suc m) os))
    (length-map cs f ∙ lc ∙ sym (many_from (step_at (offset_at os)) 0 m)) (sym (map-append f cs (cells_of_all sh bs)) ∙ e) in (
      l.0,
      λ i h.
          let same : bytes_at (offset_at begins) (take i cs) ≡ bytes_at (offset_at os) (from 0 i) =
          ap sum (map-take f cs i ∙ ap (take i) p.0 ∙ part-from (step_at (offset_at os)) 0 0 0 i m refl (omega arith)) in
          omega (arith, same, run_total (rises_of m os l.1 l.0) 0 i (omega arith), first_zero (take (suc m) os) l.1, get_or-take (suc m) os 0 0 (omega arith)),
      chunks_agree begins sh bs inside.1 (drop (suc m) os) l.2 p.1,
    )

pub take_long : {n : ℕ} (xs : List ℕ) → length (take n xs) ≡ n → n ≤ length xs
take_long {n} xs e = omega (arith, length-take n xs, min-le_right n (length xs))

module _ (x : Masks) (w d : ℕ) (p : Place) where
  abbrev k : Kind
  k = record { depth = d; masks = x; form = ragged w p }

  chunk_lengths : {m : ℕ} (c : Content) → ContentOk k m (first_chunk k m c) → map length (leaves d (cells_of k m (first_chunk k m c))) ≡ steps_at (offset_at c.offsets) (from 0 m)
  chunk_lengths {m} c ok =
      let first : Content = first_chunk k m c in
      let v = ok.values_fit in
      ap (map length) (leaves-attach m (values_in (ragged w p) m first) (values_length_lem (ragged w p) m first v) d first.masks ok.masks_fit ∙ values_are (ragged w p) m first v)
      ∙ map-map (value_in (ragged w p) first) length (from 0 m)
      ∙ map-from (λ j. length (value_in (ragged w p) first j)) (step_at (offset_at c.offsets)) 0 m (λ j h. omega (
        arith,
        value_long (begins_rise (ragged w p) m first v) first.values (begins_end (ragged w p) m first v) j (omega arith),
        get_or-take (suc m) c.offsets j 0 (omega arith),
        get_or-take (suc m) c.offsets (suc j) 0 (omega arith),
      ))

  -- the lengths that are summed are those of the cells
  pub ragged_lengths_lem : (bs : List Subset) {c : Content} {cs : List (Cell d)} → Chunked k bs c cs → map length (leaves d cs) ≡ step_parts bs c.offsets
  ragged_lengths_lem [] e = ap (λ (y : List (Cell d)). map length (leaves d y)) (none_of e).0
  ragged_lengths_lem (b ∷ bs) {c} e =
      let m : ℕ = volume (lengths b) in
      let q = first_of e in
      ap (map length) (first_leaves q) ∙ map-append length (leaves d (cells_of k m (first_chunk k m c))) (leaves d q.later)
      ∙ ap₂ (λ (y z : List ℕ). y ++ z) (chunk_lengths c q.ok) (ragged_lengths_lem bs q.is_later)

  -- what the stores of the lengths ask
  pub length_chunks : (bs : List Subset) {c : Content} {cs : List (Cell d)} → Chunked k bs c cs → LengthChunks bs c.offsets
  length_chunks [] e = tt
  length_chunks (b ∷ bs) {c} e =
      let m : ℕ = volume (lengths b) in
      let q = first_of e in
      let l : m < length c.offsets = take_long c.offsets q.ok.values_fit.0 in
      (l, q.ok.values_fit.1, length_chunks bs q.is_later)
