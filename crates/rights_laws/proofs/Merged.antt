-- A merge of parts that keep the rules and cover the shape: refused by nothing but 5 and 6, and what it gives is a valid array.
-- Assumes nothing.
use mathlib.Core.Path.{◌≡◌, refl, sym, ap, ap₂, ◌∙◌, subst}
use Prim.Native.Nat.{ℕ, ◌+◌, ◌≤◌}
use mathlib.Core.List.{List, [], ◌∷◌, ◌++◌, map}
use lib.ListN.{length, length-append}
use Rattle.array.specs.Answer.{Answer, gives, and_then, unless}
use Rattle.array.specs.Limits.{most_bytes}
use Rattle.array.specs.Lists.{joined, All}
use Rattle.array.specs.Kind.{Kind, KindOk, null_of}
use Rattle.array.specs.Cells.{Cell, leaf}
use Rattle.array.specs.Shape.{volume, ShapeOk}
use Rattle.array.specs.Subset.{Subset, subset_of, subsets_of, SubsetOk, cells_in, cells_of_all}
use Rattle.array.specs.Content.{Content, ArrayOk, leaves, layout, cells_of, array_test, size_test, null_cell}
use Rattle.array.specs.Buffers.{lengths_of, enough_test, if_room, content_outcome}
use Rattle.array.proofs.Answers.{pass}
use Rattle.array.proofs.Lists.{All-append, All-image, map-map}
use Rattle.array.proofs.Sizes.{OfSize, null_sized}
use Rattle.array.proofs.Rules.{kind_test_lem, shape_test_lem, many_test_lem, array_test_lem}
use Rattle.array.proofs.SubsetLaws.{length-cells_in, lengths_subset}
use Rattle.array.proofs.LayoutLaws.{Good, All-leaves, good_cells}
use Rattle.array.proofs.RestLaws.{leaf_blank, StrictCell, strict_blank}
use Rattle.array.proofs.Inverse.{layout_cells}
use Rattle.chunks.specs.Gather.{put_back, Once, once_test}
use Rattle.chunks.specs.Chunks.{follow, first_chunk, later_chunks, chunk_cells, merge_of}
use Rattle.chunks.specs.Calls.{merge_answer, merged}
use Rattle.chunks.specs.Demand.{shape_of}
use Rattle.chunks.proofs.Gather.{once_test_lem}
use Rattle.chunks.proofs.Chunks.{first_chunk_lem, later_chunks_lem}
use Rattle.chunks.proofs.Boxes.{Boxed, fit_subsets, subsets_are, many_boxes}
use Rattle.merge_stores.proofs.FirstChunk.{Chunked, all_values}
use Rattle.merge_output.proofs.Lengths.{put_back_all, length-put_back, merged_bytes}
use Rattle.rights_laws.specs.Laws.{Part, subsets_in, numbers_of, laid_out}

-- ---- the subsets of the parts

abbrev pub numbers_in : List Part → List (List ℕ)
numbers_in ps = map (λ (p : Part). p.subset) ps

module _ (shape : List ℕ) where
  same_subsets : (ps : List Part) → map (subset_of (length shape)) (numbers_in ps) ≡ subsets_in shape ps
  same_subsets ps = map-map (λ (p : Part). p.subset) (subset_of (length shape)) ps

  pub fit_parts : (ps : List Part) → All (Boxed shape) (numbers_in ps) → All (SubsetOk shape) (subsets_in shape ps)
  fit_parts ps s = subst (All (SubsetOk shape)) (same_subsets ps) (fit_subsets shape (numbers_in ps) s)

  listed : ShapeOk shape → (ps : List Part) → All (Boxed shape) (numbers_in ps) → subsets_of (length shape) (numbers_of ps) ≡ subsets_in shape ps
  listed sh ps s = subsets_are shape sh (numbers_in ps) s ∙ same_subsets ps

-- ---- of a kind, and of what is made of each part

module _ {k : Kind} {shape : List ℕ} (kind : KindOk k) (sh : ShapeOk shape) (f : Part → Content) where
  abbrev here : Part → ℕ
  here p = volume (shape_of shape p.subset)

  -- the cells of a part, and of all
  abbrev pub own : Part → List (Cell k.depth)
  own p = cells_of k (here p) (f p)

  abbrev pub all_own : List Part → List (Cell k.depth)
  all_own ps = joined (map own ps)

  pub record Fits (p : Part) : Type 0 where
    pub boxed : Boxed shape p.subset
    pub array : ArrayOk k (volume (shape_of shape p.subset)) (f p)
    pub small : length (f p).values ≤ most_bytes

  pub good_own : (p : Part) → Fits p → Good k (here p) (own p)
  good_own p s = good_cells k (here p) (f p) s.array s.small

  pub boxes : (ps : List Part) → All Fits ps → All (Boxed shape) (numbers_in ps)
  boxes [] s = tt
  boxes (p ∷ ps) s = (s.0.boxed, boxes ps s.1)

  first_part : (p : Part) → Fits p → (t : Content) → first_chunk k (here p) (follow (f p) t) ≡ f p
  first_part p s t =
      let back : layout k.form k.depth (own p) ≡ f p = layout_cells k (here p) (f p) s.array.fits in
      ap (λ (x : Content). first_chunk k (here p) (follow x t)) (sym back) ∙ first_chunk_lem k (here p) (own p) (good_own p s) t ∙ back

  later_parts : (p : Part) → Fits p → (t : Content) → later_chunks k (here p) (follow (f p) t) ≡ t
  later_parts p s t =
      let back : layout k.form k.depth (own p) ≡ f p = layout_cells k (here p) (f p) s.array.fits in
      ap (λ (x : Content). later_chunks k (here p) (follow x t)) (sym back) ∙ later_chunks_lem k (here p) (own p) (good_own p s) t

  -- the parts are taken apart into their cells
  pub parts_cells : (ps : List Part) → All Fits ps → chunk_cells k (subsets_in shape ps) (laid_out f ps) ≡ gives (all_own ps)
  unfolding chunk_cells
  parts_cells [] s = refl
  parts_cells (p ∷ ps) s =
      let t : Content = laid_out f ps in
      let bs : List Subset = subsets_in shape ps in
      ap (λ (ls : List ℕ).
      unless (array_test k (volume ls) (first_chunk k (volume ls) (follow (f p) t))) 4
      (and_then (chunk_cells k bs (later_chunks k (volume ls) (follow (f p) t))) (λ cs. gives (cells_of k (volume ls) (first_chunk k (volume ls) (follow (f p) t)) ++ cs))))
      (lengths_subset (length shape) p.subset s.0.boxed.numbers.counted)
      ∙ ap₂ (λ (x y : Content). unless (array_test k (here p) x) 4 (and_then (chunk_cells k bs y) (λ cs. gives (cells_of k (here p) x ++ cs))))
      (first_part p s.0 t) (later_parts p s.0 t)
      ∙ pass 4 (array_test_lem k (here p) (f p) s.0.array) (ap (λ (a : Answer (List (Cell k.depth))). and_then a (λ cs. gives (own p ++ cs))) (parts_cells ps s.1))

  pub chunked : (ps : List Part) → All Fits ps → Chunked k (subsets_in shape ps) (laid_out f ps) (all_own ps)
  chunked ps s = record { are = parts_cells ps s }

  module _ (ps : List Part) (s : All Fits ps) (once : Once (volume shape) (cells_of_all shape (subsets_in shape ps))) where
    abbrev js : List ℕ
    js = cells_of_all shape (subsets_in shape ps)

    abbrev pub merged_cells : List (Cell k.depth)
    merged_cells = put_back (null_cell k) (volume shape) (cells_of_all shape (subsets_in shape ps)) (all_own ps)

    abbrev pub merged_form : Content
    merged_form = layout k.form k.depth merged_cells

    -- what the call leaves behind
    pub merge_puts : (out : Content)
        → merged k shape (numbers_of ps) (laid_out f ps) out
        ≡ content_outcome (unless (size_test (length (joined (leaves k.depth (all_own ps))))) 5 (if_room (enough_test merged_form (lengths_of out)) merged_form)) out
    unfolding merged merge_answer
    merge_puts out =
        let rest : List Subset → List (Cell k.depth) → Answer Content =
        λ bs cs. unless (size_test (length (joined (leaves k.depth cs)))) 5
        (unless (once_test (volume shape) (cells_of_all shape bs)) 12 (if_room (enough_test (merge_of k shape bs cs) (lengths_of out)) (merge_of k shape bs cs))) in
        ap (λ a. content_outcome a out)
        (pass 1 (kind_test_lem k kind) (pass 2 (shape_test_lem shape sh) (pass 3 (many_test_lem shape (numbers_of ps) (many_boxes shape sh (numbers_in ps) (boxes ps s)))
        (ap (λ (bs : List Subset). and_then (chunk_cells k bs (laid_out f ps)) (rest bs)) (listed shape sh ps (boxes ps s))
        ∙ ap (λ (a : Answer (List (Cell k.depth))). and_then a (rest (subsets_in shape ps))) (parts_cells ps s)
        ∙ ap (unless (size_test (length (joined (leaves k.depth (all_own ps))))) 5) (pass 12 (once_test_lem (volume shape) js once) refl)))))

    -- the parts' cells by a rule
    owned : (P : Cell k.depth → Type 0) → ((p : Part) → Fits p → All P (own p)) → (qs : List Part) → All Fits qs → All P (all_own qs)
    owned P h [] t = tt
    owned P h (q ∷ qs) t = All-append P (own q) (all_own qs) (h q t.0) (owned P h qs t.1)

    pub sized_all : All (λ (c : Cell k.depth). OfSize k.form (leaf k.depth c)) (all_own ps)
    sized_all = owned (λ (c : Cell k.depth). OfSize k.form (leaf k.depth c)) (λ p t. All-leaves (OfSize k.form) k.depth (own p) (good_own p t).sized) ps s

    pub good_merged : length (joined (leaves k.depth (all_own ps))) ≤ most_bytes → Good k (volume shape) merged_cells
    good_merged h =
        let P : Cell k.depth → Type 0 = λ c. OfSize k.form (leaf k.depth c) in
        let null : P (null_cell k) = leaf_blank (null_of k.form) (OfSize k.form) k.depth (null_sized k.form) in
        record {
          counted = length-put_back (null_cell k) (volume shape) js (all_own ps);
          sized = All-image (OfSize k.form) (leaf k.depth) merged_cells (put_back_all P (null_cell k) null (volume shape) js (all_own ps) sized_all);
          small = subst (λ (m : ℕ). m ≤ most_bytes)
              (ap length (all_values (subsets_in shape ps) (chunked ps s)) ∙ sym (merged_bytes shape (fit_parts shape ps (boxes ps s)) once (chunked ps s))) h;
          strict = put_back_all (StrictCell k.depth) (null_cell k) (strict_blank (null_of k.form) k.depth) (volume shape) js (all_own ps)
              (owned (StrictCell k.depth) (λ p t. (good_own p t).strict) ps s);
        }

  -- as many cells as places
  pub as_many : (ps : List Part) → All Fits ps → length (all_own ps) ≡ length (cells_of_all shape (subsets_in shape ps))
  as_many [] s = refl
  as_many (p ∷ ps) s =
      let b : Subset = subset_of (length shape) p.subset in
      length-append (own p) (all_own ps)
      ∙ ap₂ (λ (x y : ℕ). x + y)
      ((good_own p s.0).counted ∙ ap volume (sym (lengths_subset (length shape) p.subset s.0.boxed.numbers.counted)) ∙ sym (length-cells_in shape b s.0.boxed.numbers.fits))
      (as_many ps s.1)
      ∙ sym (length-append (cells_in shape b) (cells_of_all shape (subsets_in shape ps)))
