-- Demand 3 holds: through every subset and the merge nothing is refused, and the outcome is the rest form.
-- Assumes nothing.
use mathlib.Core.Path.{◌≡◌, refl, sym, ap, ap₂, ◌∙◌, subst}
use Prim.Native.Nat.{ℕ, ◌<◌, ◌≤◌}
use native.Mathlib.Nat.{le_of_eq}
use native.Mathlib.Omega.{arith}
use mathlib.Core.List.{List, [], ◌∷◌, ◌++◌, map}
use lib.ListN.{length, get_or, length-map}
use Rattle.array.specs.Answer.{Answer, gives, and_then, unless}
use Rattle.array.specs.Lists.{joined, All, count}
use Rattle.array.specs.Kind.{Kind, Form, null_of}
use Rattle.array.specs.Shape.{volume, ShapeOk}
use Rattle.array.specs.Subset.{Subset, lengths, subset_of, subsets_of, SubsetOk, NumbersOk, cells_in, cells_of_all}
use Rattle.array.specs.Cells.{Cell, leaf, rest}
use Rattle.array.specs.Content.{Content, Valid, cells_of, array_test, size_test, leaves, layout, null_cell, rest_form}
use Rattle.array.specs.declared.answer.Lengths.{Lengths}
use Rattle.array.specs.Buffers.{lengths_of, Enough, enough_test, Taken, taken, taken_bytes, whole}
use Rattle.array.proofs.Answers.{pass}
use Rattle.array.proofs.Lists.{All-image, All-get_or, All-of, map-map, map-append}
use Rattle.array.proofs.Sums.{count-append}
use Rattle.array.proofs.Rules.{kind_test_lem, shape_test_lem, many_test_lem, array_test_lem, size_test_lem, enough_test_lem}
use Rattle.array.proofs.Sizes.{OfSize, SizedAs, null_sized}
use Rattle.array.proofs.SubsetLaws.{length-cells_in, cells_in_below, all_below, subset_shape, lengths_subset}
use Rattle.array.proofs.LayoutLaws.{cells_layout, Good, All-leaves, good_cells, good_layout}
use Rattle.array.proofs.Resting.{good_rest}
use Rattle.array.proofs.RestLaws.{rest_blank, leaf_blank}
use Rattle.array.proofs.Taken.{taken_content, taken_bytes_lem}
use Rattle.codec.specs.Frame.{live}
use Rattle.codec.specs.Carried.{Carried}
use Rattle.codec.specs.Calls.{encoded, decoded, encode_answer, decode_answer}
use Rattle.chunks.specs.Gather.{gather, put_back, Once, once_test}
use Rattle.chunks.specs.Cut.{cells_at, cut_of}
use Rattle.chunks.specs.Chunks.{no_content, follow, chunk_cells, merge_of}
use Rattle.chunks.specs.Calls.{extracted, extract_answer, merged, merge_answer}
use Rattle.chunks.specs.Demand.{Entry, shape_of, rest_of_cut, one_way, each_way, whole_way, EntryOk, Covers, subsets_in, Demand3}
use Rattle.chunks.proofs.Gather.{gather-map, put_back-gather, once_test_lem}
use Rattle.chunks.proofs.GoodCells.{good_gather}
use Rattle.chunks.proofs.Boxes.{Boxed, fit_subsets, subsets_are, many_boxes, once_each}
use Rattle.chunks.proofs.Chunks.{first_chunk_lem, later_chunks_lem}
use Rattle.chunks.proofs.Calls.{extract_gives, encode_gives, decode_gives, valid_layout}

module _ (k : Kind) (shape : List ℕ) (c : Content) (v : Valid k shape c) where
  abbrev d : ℕ
  d = k.depth

  abbrev sides : ℕ
  sides = length shape

  abbrev size : ℕ
  size = volume shape

  abbrev own : List (Cell d)
  own = cells_of k size c

  abbrev resting : Cell d → Cell d
  resting = rest (null_of k.form) d

  good_own : Good k size own
  good_own = good_cells k size c v.content v.small

  abbrev AtMostOnce : List ℕ → Type 0
  AtMostOnce js = (i : ℕ) → i < size → count i js ≤ 1

  good_subset : (b : Subset) → SubsetOk shape b → AtMostOnce (cells_in shape b) → Good k (volume (lengths b)) (cells_at k shape c b)
  good_subset b p o =
      subst (λ (n : ℕ). Good k n (cells_at k shape c b)) (length-cells_in shape b p)
      (good_gather k size own good_own (cells_in shape b) (cells_in_below shape b p) o)

  -- the cells of a subset in rest form, laid out
  abbrev rest_cells : Subset → Content
  rest_cells b = layout k.form d (map resting (cells_at k shape c b))

  -- they are the rest form of the cut, by the words of docs/SPEC.md, S2.1 to S2.3
  rest_of_cut_lem : (ns : List ℕ) → NumbersOk shape ns → rest_of_cut k shape c ns ≡ rest_cells (subset_of sides ns)
  rest_of_cut_lem ns p =
      let q : Subset = subset_of sides ns in
      let f : Form = k.form in
      let nc : Cell d = null_cell k in
      let sized : SizedAs f (leaves d (cells_at k shape c q)) =
      All-image (OfSize f) (leaf d) (gather nc own (cells_in shape q))
      (All-image (λ (x : Cell d). OfSize f (leaf d x)) (λ i. get_or own i nc) (cells_in shape q)
      (All-of (λ i. OfSize f (leaf d (get_or own i nc)))
      (All-get_or (λ (x : Cell d). OfSize f (leaf d x)) nc (leaf_blank (null_of f) (OfSize f) d (null_sized f)) own (All-leaves (OfSize f) d own good_own.sized)) (cells_in shape q))) in
      ap (λ (ls : List ℕ). rest_form k (volume ls) (cut_of k shape c q)) (sym (lengths_subset sides ns p.counted))
      ∙ ap (λ (ys : List (Cell d)). layout f d (map resting ys))
      (cells_layout k (volume (lengths q)) (cells_at k shape c q) (length-map (cells_in shape q) (λ i. get_or own i nc) ∙ length-cells_in shape q p.fits) sized)

  -- ---- one subset

  abbrev subset_in : Entry → Subset
  subset_in e = subset_of sides e.subset

  one_way_lem : (e : Entry) → EntryOk k shape c e → AtMostOnce (cells_in shape (subset_in e)) → one_way k shape c e ≡ gives (rest_cells (subset_in e))
  unfolding extracted encoded decoded
  one_way_lem e ok o =
      let ns : List ℕ = e.subset in
      let b : Subset = subset_in e in
      let xs : List (Cell d) = cells_at k shape c b in
      let ls : List ℕ = shape_of shape ns in
      let el : lengths b ≡ ls = lengths_subset sides ns ok.numbers.counted in
      let sh : ShapeOk ls = subst ShapeOk el (subset_shape shape b v.shaped ok.numbers.fits (subst (All (λ n. 1 ≤ n)) (sym el) ok.full)) in
      let g : Good k (volume ls) xs = subst (λ (l : List ℕ). Good k (volume l) xs) el (good_subset b ok.numbers.fits o) in
      let w : Carried k.form (live d xs) =
      subst (λ (ys : List (Cell d)). Carried k.form (live d ys)) (cells_layout k (volume ls) xs g.counted g.sized) ok.carried in
      let back : Enough (rest_cells b) (lengths_of e.back) = subst (λ (x : Content). Enough x (lengths_of e.back)) (rest_of_cut_lem ns ok.numbers) ok.back_enough in
      ap (λ (a : Answer Taken). and_then a (λ x. and_then (taken_bytes (encoded k ls x.content e.stored)) (λ s. and_then (taken (decoded k ls s e.back)) (λ y. gives y.content))))
      (taken_content (extract_answer k shape ns c (lengths_of e.cut)) e.cut
      ∙ ap (λ (a : Answer Content). and_then a (λ x. gives (whole x))) (extract_gives k shape c v ns ok.numbers (lengths_of e.cut) ok.cut_enough))
      ∙ ap (λ (a : Answer (List ℕ)). and_then a (λ s. and_then (taken (decoded k ls s e.back)) (λ y. gives y.content)))
      (taken_bytes_lem (encode_answer k ls (layout k.form d xs) (length e.stored)) e.stored
      ∙ encode_gives k v.kind ls sh xs g w (length e.stored) ok.stored_enough)
      ∙ ap (λ (a : Answer Taken). and_then a (λ y. gives y.content))
      (taken_content (decode_answer k ls _ (lengths_of e.back)) e.back
      ∙ ap (λ (a : Answer Content). and_then a (λ x. gives (whole x))) (decode_gives k v.kind ls sh xs g w (lengths_of e.back) back))

  -- ---- all subsets

  -- all that was read, laid end to end
  abbrev chunks : List Subset → Content
  chunks [] = no_content
  chunks (b ∷ bs) = follow (rest_cells b) (chunks bs)

  once_first : (b : Subset) (bs : List Subset) → AtMostOnce (cells_of_all shape (b ∷ bs)) → AtMostOnce (cells_in shape b)
  once_first b bs o i h = omega (arith, o i h, count-append i (cells_in shape b) (cells_of_all shape bs))

  once_later : (b : Subset) (bs : List Subset) → AtMostOnce (cells_of_all shape (b ∷ bs)) → AtMostOnce (cells_of_all shape bs)
  once_later b bs o i h = omega (arith, o i h, count-append i (cells_in shape b) (cells_of_all shape bs))

  each_way_lem : (es : List Entry) → All (EntryOk k shape c) es → AtMostOnce (cells_of_all shape (subsets_in shape es)) → each_way k shape c es ≡ gives (chunks (subsets_in shape es))
  each_way_lem [] s o = refl
  each_way_lem (e ∷ es) s o =
      ap₂ (λ (x y : Answer Content). and_then x (λ a. and_then y (λ t. gives (follow a t))))
      (one_way_lem e s.0 (once_first (subset_in e) (subsets_in shape es) o)) (each_way_lem es s.1 (once_later (subset_in e) (subsets_in shape es) o))

  -- the chunks that were read are taken apart into the cells that were cut, in rest form
  chunk_cells_lem : (bs : List Subset) → All (SubsetOk shape) bs → AtMostOnce (cells_of_all shape bs)
      → chunk_cells k bs (chunks bs) ≡ gives (map resting (gather (null_cell k) own (cells_of_all shape bs)))
  unfolding chunk_cells
  chunk_cells_lem [] p o = refl
  chunk_cells_lem (b ∷ bs) p o =
      let m : ℕ = volume (lengths b) in
      let xs : List (Cell d) = map resting (cells_at k shape c b) in
      let g : Good k m xs = good_rest k m (cells_at k shape c b) (good_subset b p.0 (once_first b bs o)) in
      let t : Content = chunks bs in
      ap₂ (λ (x y : Content). unless (array_test k m x) 4 (and_then (chunk_cells k bs y) (λ cs. gives (cells_of k m x ++ cs)))) (first_chunk_lem k m xs g t) (later_chunks_lem k m xs g t)
      ∙ pass 4 (array_test_lem k m (layout k.form d xs) (good_layout k m xs g)) refl
      ∙ ap (λ (a : Answer (List (Cell d))). and_then a (λ cs. gives (cells_of k m (layout k.form d xs) ++ cs))) (chunk_cells_lem bs p.1 (once_later b bs o))
      ∙ ap (λ (ys : List (Cell d)). gives (ys ++ map resting (gather (null_cell k) own (cells_of_all shape bs)))) (cells_layout k m xs g.counted g.sized)
      ∙ ap gives (sym (map-append resting (cells_at k shape c b) (gather (null_cell k) own (cells_of_all shape bs)))
      ∙ ap (map resting) (sym (map-append (λ i. get_or own i (null_cell k)) (cells_in shape b) (cells_of_all shape bs))))

  -- ---- the merge

  -- what was cut, read back and gathered again is the rest form
  gather_rest : (js : List ℕ) → map resting (gather (null_cell k) own js) ≡ gather (null_cell k) (map resting own) js
  gather_rest js = sym (gather-map resting (null_cell k) own js) ∙ ap (λ (x : Cell d). gather x (map resting own) js) (rest_blank (null_of k.form) d)

  put_back_lem : (js : List ℕ) → Once size js → put_back (null_cell k) size js (map resting (gather (null_cell k) own js)) ≡ map resting own
  put_back_lem js o =
      let e : length (map resting own) ≡ size = length-map own resting ∙ good_own.counted in
      ap₂ (λ (n : ℕ) (ys : List (Cell d)). put_back (null_cell k) n js ys) (sym e) (gather_rest js)
      ∙ put_back-gather (null_cell k) (map resting own) js (subst (λ (n : ℕ). Once n js) (sym e) o)

  -- ---- the list of subsets as numbers

  abbrev numbers_in : List Entry → List (List ℕ)
  numbers_in es = map (λ (e : Entry). e.subset) es

  boxed : (es : List Entry) → All (EntryOk k shape c) es → All (Boxed shape) (numbers_in es)
  boxed [] s = tt
  boxed (e ∷ es) s = (record { numbers = s.0.numbers; full = s.0.full }, boxed es s.1)

  same_subsets : (es : List Entry) → map (subset_of sides) (numbers_in es) ≡ subsets_in shape es
  same_subsets es = map-map (λ (e : Entry). e.subset) (subset_of sides) es

  listed_subsets : (es : List Entry) → All (EntryOk k shape c) es → subsets_of sides (joined (numbers_in es)) ≡ subsets_in shape es
  listed_subsets es s = subsets_are shape v.shaped (numbers_in es) (boxed es s) ∙ same_subsets es

  fit_entries : (es : List Entry) → All (EntryOk k shape c) es → All (SubsetOk shape) (subsets_in shape es)
  fit_entries es s = subst (All (SubsetOk shape)) (same_subsets es) (fit_subsets shape (numbers_in es) (boxed es s))

  -- ---- the whole way

  merge_gives : (es : List Entry) → All (EntryOk k shape c) es → Once size (cells_of_all shape (subsets_in shape es)) → (r : Lengths) → Enough (rest_form k size c) r
      → merge_answer k shape (joined (numbers_in es)) (chunks (subsets_in shape es)) r ≡ gives (rest_form k size c)
  unfolding merge_answer
  merge_gives es s o r e =
      let bs : List Subset = subsets_in shape es in
      let all : List ℕ = cells_of_all shape bs in
      let fit : All (SubsetOk shape) bs = fit_entries es s in
      let cs : List (Cell d) = map resting (gather (null_cell k) own all) in
      let o' : AtMostOnce all = λ i h. le_of_eq (o i h) in
      let g : Good k (length all) cs = good_rest k (length all) (gather (null_cell k) own all) (good_gather k size own good_own all (all_below shape bs fit) o') in
      pass 1 (kind_test_lem k v.kind) (pass 2 (shape_test_lem shape v.shaped) (pass 3 (many_test_lem shape (joined (numbers_in es)) (many_boxes shape v.shaped (numbers_in es) (boxed es s)))
      (ap (λ (bs' : List Subset). and_then (chunk_cells k bs' (chunks bs)) (λ xs.
      unless (size_test (length (joined (leaves d xs)))) 5
      (unless (once_test size (cells_of_all shape bs')) 12 (unless (enough_test (merge_of k shape bs' xs) r) 6 (gives (merge_of k shape bs' xs)))))) (listed_subsets es s)
      ∙ ap (λ (a : Answer (List (Cell d))). and_then a (λ xs.
      unless (size_test (length (joined (leaves d xs)))) 5
      (unless (once_test size all) 12 (unless (enough_test (merge_of k shape bs xs) r) 6 (gives (merge_of k shape bs xs)))))) (chunk_cells_lem bs fit o')
      ∙ pass 5 (size_test_lem (length (joined (leaves d cs))) g.small) (pass 12 (once_test_lem size all o)
      (ap (λ (xs : List (Cell d)). unless (enough_test (layout k.form d xs) r) 6 (gives (layout k.form d xs))) (put_back_lem all o)
      ∙ pass 6 (enough_test_lem (rest_form k size c) r e) refl)))))

  pub whole_way_lem : (es : List Entry) → All (EntryOk k shape c) es → Covers shape (subsets_in shape es) → (out : Content) → Enough (rest_form k size c) (lengths_of out)
      → whole_way k shape c es out ≡ gives (whole (rest_form k size c))
  unfolding merged
  whole_way_lem es s o out e =
      let once : Once size (cells_of_all shape (subsets_in shape es)) = once_each shape (subsets_in shape es) (fit_entries es s) o in
      ap (λ (a : Answer Content). and_then a (λ all. taken (merged k shape (joined (numbers_in es)) all out))) (each_way_lem es s (λ i h. le_of_eq (once i h)))
      ∙ taken_content (merge_answer k shape (joined (numbers_in es)) (chunks (subsets_in shape es)) (lengths_of out)) out
      ∙ ap (λ (a : Answer Content). and_then a (λ x. gives (whole x))) (merge_gives es s once (lengths_of out) e)

  -- ---- the cut of Q

  good_outcome : Good k size (map resting own)
  good_outcome = good_rest k size own good_own

  pub cut_gives : (Q : List ℕ) → NumbersOk shape Q → (r : Lengths) → Enough (rest_of_cut k shape c Q) r
      → extract_answer k shape Q (rest_form k size c) r ≡ gives (rest_of_cut k shape c Q)
  cut_gives Q p r e =
      let q : Subset = subset_of sides Q in
      let same : cut_of k shape (rest_form k size c) q ≡ rest_of_cut k shape c Q =
      ap (λ (ys : List (Cell d)). layout k.form d (gather (null_cell k) ys (cells_in shape q))) (cells_layout k size (map resting own) good_outcome.counted good_outcome.sized)
      ∙ ap (layout k.form d) (sym (gather_rest (cells_in shape q))) ∙ sym (rest_of_cut_lem Q p) in
      extract_gives k shape (rest_form k size c) (valid_layout k v.kind shape v.shaped (map resting own) good_outcome) Q p r
      (subst (λ (x : Content). Enough x r) (sym same) e)
      ∙ ap gives same

pub demand3 : Demand3
unfolding extracted
demand3 k shape A v es s o out e =
    let first : whole_way k shape A es out ≡ gives (whole (rest_form k (volume shape) A)) = whole_way_lem k shape A v es s o out e in (
      first,
      λ Q p outQ f.
          ap (λ (a : Answer Taken). and_then a (λ m. taken (extracted k shape Q m.content outQ))) first
          ∙ taken_content (extract_answer k shape Q (rest_form k (volume shape) A) (lengths_of outQ)) outQ
          ∙ ap (λ (a : Answer Content). and_then a (λ x. gives (whole x))) (cut_gives k shape A v Q p (lengths_of outQ) f),
    )
