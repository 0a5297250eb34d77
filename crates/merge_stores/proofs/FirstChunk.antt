-- The cells of a chunk list: those of the first chunk, and of the others. All value bytes are in cells.
-- Assumes nothing.
use mathlib.Core.Path.{◌≡◌, sym, ap, ap₂, ◌∙◌}
use Prim.Native.Nat.{ℕ}
use native.Mathlib.Omega.{arith}
use mathlib.Core.List.{List, [], ◌∷◌, ◌++◌}
use lib.ListN.{take, take-append-drop, drop_of_length-le}
use Rattle.array.specs.Answer.{gives, and_then}
use Rattle.array.specs.Cells.{Cell, leaf}
use Rattle.array.specs.Content.{Content, ContentOk, array_test, leaves, cells_of}
use Rattle.array.specs.Kind.{Kind}
use Rattle.array.specs.Lists.{joined}
use Rattle.array.specs.Shape.{volume}
use Rattle.array.specs.Subset.{Subset, lengths}
use Rattle.array.proofs.Answers.{passed, went_on, same_given}
use Rattle.array.proofs.Inverse.{layout_cells}
use Rattle.array.proofs.Lists.{map-append, joined-append}
use Rattle.array.proofs.Rules.{array_ok}
use Rattle.chunks.specs.Chunks.{offset_count, value_count, first_chunk, later_chunks, Nothing, nothing_test, chunk_cells}
use Rattle.chunks.proofs.Refusals.{nothing_ok}

-- a chunk list with these cells
pub record Chunked (k : Kind) (bs : List Subset) (c : Content) (cs : List (Cell k.depth)) : Type 0 where
  pub are : chunk_cells k bs c ≡ gives cs

pub none_of : {k : Kind} {c : Content} {cs : List (Cell k.depth)} → Chunked k [] c cs → (cs ≡ []) × Nothing c
unfolding chunk_cells
none_of {c = c} e = let t = passed (nothing_test c) 4 (gives []) e.are in (sym (same_given t.1), nothing_ok c t.0)

pub record First (k : Kind) (b : Subset) (bs : List Subset) (c : Content) (cs : List (Cell k.depth)) : Type 0 where
  pub ok : ContentOk k (volume (lengths b)) (first_chunk k (volume (lengths b)) c)
  pub later : List (Cell k.depth)
  pub is_later : Chunked k bs (later_chunks k (volume (lengths b)) c) later
  pub whole : cs ≡ cells_of k (volume (lengths b)) (first_chunk k (volume (lengths b)) c) ++ later

pub first_of : {k : Kind} {b : Subset} {bs : List Subset} {c : Content} {cs : List (Cell k.depth)} → Chunked k (b ∷ bs) c cs → First k b bs c cs
unfolding chunk_cells
first_of {k} {b} {bs} {c} e =
    let m : ℕ = volume (lengths b) in
    let t = passed (array_test k m (first_chunk k m c)) 4 (and_then (chunk_cells k bs (later_chunks k m c)) (λ xs. gives (cells_of k m (first_chunk k m c) ++ xs))) e.are in
    let w = went_on (chunk_cells k bs (later_chunks k m c)) (λ xs. gives (cells_of k m (first_chunk k m c) ++ xs)) t.1 in
    record { ok = (array_ok k m (first_chunk k m c) t.0).fits; later = w.0; is_later = record { are = w.1.0 }; whole = sym (same_given w.1.1) }

-- the values of the first chunk, and of the others
pub first_leaves : {k : Kind} {b : Subset} {bs : List Subset} {c : Content} {cs : List (Cell k.depth)} (q : First k b bs c cs)
    → leaves k.depth cs ≡ leaves k.depth (cells_of k (volume (lengths b)) (first_chunk k (volume (lengths b)) c)) ++ leaves k.depth q.later
first_leaves {k} {b} {c = c} q = ap (leaves k.depth) q.whole ∙ map-append (leaf k.depth) (cells_of k (volume (lengths b)) (first_chunk k (volume (lengths b)) c)) q.later

pub all_values : {k : Kind} (bs : List Subset) {c : Content} {cs : List (Cell k.depth)} → Chunked k bs c cs → joined (leaves k.depth cs) ≡ c.values
all_values {k} [] {c} e = ap (λ (x : List (Cell k.depth)). joined (leaves k.depth x)) (none_of e).0 ∙ sym (drop_of_length-le c.values {i = 0} (omega (arith, (none_of e).1.no_values)))
all_values {k} (b ∷ bs) {c} e =
    let m : ℕ = volume (lengths b) in
    let first : Content = first_chunk k m c in
    let q = first_of e in
    ap joined (first_leaves q) ∙ joined-append (leaves k.depth (cells_of k m first)) (leaves k.depth q.later)
    ∙ ap₂ (λ (x y : List ℕ). x ++ y) (ap (λ (x : Content). x.values) (layout_cells k m first q.ok)) (all_values bs q.is_later)
    ∙ take-append-drop (value_count k.form m (take (offset_count k.form m) c.offsets)) c.values
