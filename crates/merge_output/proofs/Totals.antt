-- What a chunk list that passes the check has: its cells, and enough mask and value bytes for the stores.
-- Assumes nothing.
use mathlib.Core.Path.{◌≡◌, refl, ap, ◌∙◌}
use Prim.Native.Nat.{ℕ, ◌*◌, ◌≤◌}
use native.Mathlib.Nat.{zero-mul, add-mul, mul_comm}
use native.Mathlib.Omega.{arith}
use mathlib.Core.Bool.{Bool, true, false, ◌&&◌}
use mathlib.Core.List.{List, [], ◌∷◌, ◌++◌}
use lib.ListN.{length, length-drop}
use Rattle.array.specs.Answer.{Answer, gives, refuses, and_then, unless}
use Rattle.array.specs.Cells.{Cell}
use Rattle.array.specs.Content.{Content, cells_of, array_test}
use Rattle.array.specs.Kind.{Kind, Masks, fixed, Order}
use Rattle.array.specs.Shape.{volume}
use Rattle.array.specs.Subset.{Subset, lengths}
use Rattle.chunks.specs.Chunks.{chunk_cells, first_chunk, later_chunks}
use Rattle.merge_stores.specs.Store.{cells_total}
use Rattle.merge_stores.proofs.FirstChunk.{Chunked, first_of}
use Rattle.merge_stores.proofs.RaggedTies.{take_long}
use Rattle.merge_rules.specs.Chunks.{chunks_test}

-- the check tells whether the list has cells; its refusal is theirs
cells_by_test : (k : Kind) (bs : List Subset) (c : Content) → (cs : List (Cell k.depth)) × (chunk_cells k bs c ≡ unless (chunks_test k bs c) 4 (gives cs))
unfolding chunk_cells
cells_by_test k [] c = ([], refl)
cells_by_test k (b ∷ bs) c =
    let m : ℕ = volume (lengths b) in
    let q = cells_by_test k bs (later_chunks k m c) in (
      cells_of k m (first_chunk k m c) ++ q.0,
      ap (λ (a : Answer (List (Cell k.depth))). unless (array_test k m (first_chunk k m c)) 4 (and_then a (λ cs. gives (cells_of k m (first_chunk k m c) ++ cs)))) q.1
          ∙ go (cells_of k m (first_chunk k m c)) q.0 (array_test k m (first_chunk k m c)) (chunks_test k bs (later_chunks k m c)),
    )
  where
    go : (xs ys : List (Cell k.depth)) (t u : Bool) → unless t 4 (and_then (unless u 4 (gives ys)) (λ cs. gives (xs ++ cs))) ≡ unless (t && u) 4 (gives (xs ++ ys))
    go xs ys true true = refl
    go xs ys true false = refl
    go xs ys false u = refl

pub refused : (k : Kind) (bs : List Subset) (c : Content) → chunks_test k bs c ≡ false → chunk_cells k bs c ≡ refuses 4
refused k bs c t = let q = cells_by_test k bs c in q.1 ∙ ap (λ (x : Bool). unless x 4 (gives q.0)) t

pub found : (k : Kind) (bs : List Subset) (c : Content) → chunks_test k bs c ≡ true → (cs : List (Cell k.depth)) × Chunked k bs c cs
found k bs c t = let q = cells_by_test k bs c in (q.0, record { are = q.1 ∙ ap (λ (x : Bool). unless x 4 (gives q.0)) t })

pub masks_total : {k : Kind} (bs : List Subset) {c : Content} {cs : List (Cell k.depth)} → Chunked k bs c cs → cells_total bs * k.depth ≤ length c.masks
masks_total {k} [] e = omega (arith, zero-mul k.depth)
masks_total {k} (b ∷ bs) {c} e =
    let d : ℕ = k.depth in
    let m : ℕ = volume (lengths b) in
    let q = first_of e in
    omega (
      arith,
      masks_total bs q.is_later,
      take_long c.masks q.ok.masks_fit,
      length-drop (d * m) c.masks,
      add-mul m (cells_total bs) d,
      mul_comm d m,
    )

pub values_total : (x : Masks) (k d : ℕ) (r : Order) (bs : List Subset) {c : Content} {cs : List (Cell d)} → Chunked (record { depth = d; masks = x; form = fixed k r }) bs c cs
    → cells_total bs * k ≤ length c.values
values_total x k d r [] e = omega (arith, zero-mul k)
values_total x k d r (b ∷ bs) {c} e =
    let m : ℕ = volume (lengths b) in
    let q = first_of e in
    omega (
      arith,
      values_total x k d r bs q.is_later,
      take_long c.values q.ok.values_fit.0,
      length-drop (m * k) c.values,
      add-mul m (cells_total bs) k,
    )
