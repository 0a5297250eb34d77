-- docs/SPEC.md, S7.1 to S7.3: each refusal exactly when it is due, for cutting and merging.
-- The rules of a chunk list, and with them the rules of this layer's three calls.
-- Assumes nothing.
use Rattle.std.specs.Prelude.{ℕ, ◌≤◌, List, [], ◌∷◌, ◌++◌, length}
use Rattle.array.specs.Limits.{most_bytes}
use Rattle.array.specs.Lists.{joined}
use Rattle.array.specs.Kind.{Kind, KindOk, Place}
use Rattle.array.specs.Shape.{volume, ShapeOk}
use Rattle.array.specs.Subset.{Subset, lengths, subset_of, subsets_of, NumbersOk, ManyOk, cells_of_all}
use Rattle.array.specs.Content.{Content, RaggedContent, ArrayOk, leaves}
use Rattle.array.specs.Buffers.{lengths_of, ragged_lengths_of, Enough, RaggedEnough}
use Rattle.array.specs.Refusals.{Rule, InOrder, Given}
use Rattle.codec.specs.Ragged.{get_ragged}
use Rattle.codec.specs.Refusals.{ragged_rules}
use Rattle.chunks.specs.Gather.{Once}
use Rattle.chunks.specs.Cut.{cut_of}
use Rattle.chunks.specs.Chunks.{Nothing, first_chunk, later_chunks, chunk_cells, merge_of}
use Rattle.chunks.specs.Calls.{extracted, merged, ragged_cut, partially_decoded}

abbrev pub chunk_rules : Kind → List Subset → Content → List Rule
chunk_rules k [] c = (4, Nothing c) ∷ []
chunk_rules k (b ∷ bs) c =
    let m = volume (lengths b) in
    (4, ArrayOk k m (first_chunk k m c)) ∷ chunk_rules k bs (later_chunks k m c)

-- ---- the calls

abbrev pub extract_rules : Kind → List ℕ → List ℕ → Content → Content → List Rule
extract_rules k shape ns c out =
    (1, KindOk k) ∷ (2, ShapeOk shape) ∷ (3, NumbersOk shape ns) ∷ (4, ArrayOk k (volume shape) c) ∷ (5, length c.values ≤ most_bytes)
    ∷ (6, Enough (cut_of k shape c (subset_of (length shape) ns)) (lengths_of out)) ∷ []

abbrev pub merge_rules : Kind → List ℕ → List ℕ → Content → Content → List Rule
merge_rules k shape ns c out =
    let bs = subsets_of (length shape) ns in
    (1, KindOk k) ∷ (2, ShapeOk shape) ∷ (3, ManyOk shape ns)
    ∷ (chunk_rules k bs c
    ++ (5, Given (chunk_cells k bs c) (λ cs. length (joined (leaves k.depth cs)) ≤ most_bytes))
    ∷ (12, Once (volume shape) (cells_of_all shape bs))
    ∷ (6, Given (chunk_cells k bs c) (λ cs. Enough (merge_of k shape bs cs) (lengths_of out))) ∷ [])

-- 3 before any stored byte
abbrev pub partial_rules : ℕ → Place → List ℕ → List ℕ → List ℕ → RaggedContent → List Rule
partial_rules w p shape ns s out =
    (2, ShapeOk shape) ∷ (3, NumbersOk shape ns)
    ∷ (ragged_rules w p s (volume shape)
    ++ (6, Given (get_ragged w p s (volume shape)) (λ x. RaggedEnough (ragged_cut w p shape ns x) (ragged_lengths_of out))) ∷ [])

pub record Refusals : Type 1 where
  pub extract : (k : Kind) (shape ns : List ℕ) (c out : Content) → InOrder (extract_rules k shape ns c out) (extracted k shape ns c out).answer
  pub merge : (k : Kind) (shape ns : List ℕ) (c out : Content) → InOrder (merge_rules k shape ns c out) (merged k shape ns c out).answer
  pub partial_decode : (w : ℕ) (p : Place) (shape ns s : List ℕ) (out : RaggedContent)
      → InOrder (partial_rules w p shape ns s out) (partially_decoded w p shape ns s out).answer
