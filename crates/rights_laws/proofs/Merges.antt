-- Reading the parts and then merging them is merging arrays and planes and then reading (specs/Laws, Merges).
-- Assumes nothing.
use mathlib.Core.Path.{◌≡◌, refl, sym, ap, ap₂, ◌∙◌, subst}
use Prim.Native.Nat.{ℕ, ◌+◌, ◌≤◌, ◌<◌}
use native.Mathlib.Nat.{le_refl, le_trans}
use native.Mathlib.Omega.{arith}
use mathlib.Core.Bool.{Bool, true, false}
use mathlib.Core.List.{List, [], ◌∷◌, ◌++◌, map}
use lib.ListN.{length, length-append}
use Rattle.array.specs.Answer.{Answer, gives, refuses, and_then, unless, Outcome}
use Rattle.array.specs.Limits.{most_bytes}
use Rattle.array.specs.Lists.{joined, All, from, pick}
use Rattle.array.specs.Kind.{Kind, KindOk, null_of}
use Rattle.array.specs.Cells.{Value, Cell, Strict, set_test, leaf, rest}
use Rattle.array.specs.Shape.{volume, ShapeOk}
use Rattle.array.specs.Subset.{cells_of_all}
use Rattle.array.specs.Content.{Content, Valid, leaves, layout, pair_up, size_test, null_cell}
use Rattle.array.specs.declared.answer.Lengths.{Lengths}
use Rattle.array.specs.Buffers.{lengths_of, Enough, enough_test, if_room, content_outcome, put_into, Taken, taken, whole}
use Rattle.array.proofs.Answers.{pass}
use Rattle.array.proofs.Lists.{All-map, All-append, map-append, length_from_lem}
use Rattle.array.proofs.Sums.{sum_of, sum_of_map, sum-le, sum_once}
use Rattle.array.proofs.Sizes.{OfSize, null_least}
use Rattle.array.proofs.Rules.{size_test_lem, size_ok, enough_ok}
use Rattle.array.proofs.LayoutLaws.{Good, inners-pair_up, bytes_sum, cells_layout}
use Rattle.array.proofs.Resting.{laid_valid}
use Rattle.array.proofs.RestLaws.{leaf_blank, leaf_rest}
use Rattle.array.proofs.SubsetLaws.{all_below}
use Rattle.rights.specs.Rights.{RightsOk, guest_form}
use Rattle.rights.specs.Calls.{guest_read}
use Rattle.rights.proofs.Seeing.{shows}
use Rattle.chunks.specs.Gather.{put_back, Once}
use Rattle.chunks.specs.Chunks.{follow}
use Rattle.chunks.specs.Calls.{merged}
use Rattle.chunks.specs.Demand.{shape_of, Covers}
use Rattle.chunks.specs.ReadThenCut.{next_call}
use Rattle.chunks.proofs.Boxes.{Boxed, once_each}
use Rattle.merge_stores.proofs.Levels.{put_back-map}
use Rattle.merge_output.proofs.Lengths.{put_back_all, length-put_back}
use Rattle.rights_laws.specs.Planes.{plane_kind}
use Rattle.rights_laws.specs.Laws.{Part, subsets_in, numbers_of, laid_out, array_in, plane_in, read_each, read_then_merge, merge_then_read, PartOk, Merges}
use Rattle.rights_laws.proofs.Pairs.{pairs-append, pairs-put_back}
use Rattle.rights_laws.proofs.Seen.{veil, veiled, form_is, form_cells, read_puts, put_taken, next_put}
use Rattle.rights_laws.proofs.PlaneArrays.{plane_kind_ok, plane_fits, plane_small, single, plane_cells, singles_joined}
use Rattle.rights_laws.proofs.Merged as parts

-- ---- what is hidden has no more bytes than what was there

module _ (k : Kind) where
  abbrev bytes : Cell k.depth → ℕ
  bytes x = length (leaf k.depth x)

  abbrev SizedCell : Cell k.depth → Type 0
  SizedCell x = OfSize k.form (leaf k.depth x)

  veil_less : (p : ℕ × Cell k.depth) → SizedCell p.1 → bytes (veil k p) ≤ bytes p.1
  veil_less p h = one (set_test p.0)
    where
      one : (b : Bool) → bytes (pick b (rest (null_of k.form) k.depth p.1) (null_cell k)) ≤ bytes p.1
      one true = leaf_rest (null_of k.form) (λ v. length v ≤ bytes p.1) k.depth p.1 (null_least k.form (leaf k.depth p.1) h) (le_refl (bytes p.1))
      one false = leaf_blank (null_of k.form) (λ v. length v ≤ bytes p.1) k.depth (null_least k.form (leaf k.depth p.1) h)

  paired : (rs : List ℕ) (xs : List (Cell k.depth)) → All SizedCell xs → All (λ (p : ℕ × Cell k.depth). bytes (veil k p) ≤ bytes p.1) (pair_up rs xs)
  paired [] xs h = tt
  paired (r ∷ rs) [] h = tt
  paired (r ∷ rs) (x ∷ xs) h = (veil_less (r, x) h.0, paired rs xs h.1)

  pub veiled_less : (rs : List ℕ) (xs : List (Cell k.depth)) → length rs ≡ length xs → All SizedCell xs
      → length (joined (leaves k.depth (veiled k rs xs))) ≤ length (joined (leaves k.depth xs))
  veiled_less rs xs e h =
      let ps : List (ℕ × Cell k.depth) = pair_up rs xs in
      omega (
        arith,
        bytes_sum k.depth (veiled k rs xs),
        sum_of_map (veil k) bytes ps,
        sum-le (λ p. bytes (veil k p)) (λ p. bytes p.1) ps (paired rs xs h),
        sum_of_map (λ (p : ℕ × Cell k.depth). p.1) bytes ps,
        ap (sum_of bytes) (inners-pair_up rs xs e),
        bytes_sum k.depth xs,
      )

-- ---- as many places as numbers below n, where each stands once

places_few : (n : ℕ) (js : List ℕ) → All (λ j. j < n) js → Once n js → length js ≤ n
places_few n js below once =
    let ones : (xs : List ℕ) → sum_of (λ j. 1) xs ≡ length xs = count_ones in
    omega (arith, sum_once (λ j. 1) n js below (λ i h. omega (arith, once i h)), ones js, ones (from 0 n), length_from_lem 0 n)
  where
    count_ones : (xs : List ℕ) → sum_of (λ j. 1) xs ≡ length xs
    count_ones [] = refl
    count_ones (x ∷ xs) = omega (arith, count_ones xs)

module _ {k : Kind} {shape : List ℕ} (kind : KindOk k) (sh : ShapeOk shape) (some : 0 < k.depth) (ps : List Part) (oks : All (PartOk k shape) ps)
    (cover : Covers shape (subsets_in shape ps)) where
  abbrev n : ℕ
  n = volume shape

  abbrev nc : Cell k.depth
  nc = null_cell k

  abbrev js : List ℕ
  js = cells_of_all shape (subsets_in shape ps)

  -- what is seen of a part
  abbrev seen_in : Part → Content
  seen_in p = guest_form k (volume (shape_of shape p.subset)) p.rights p.array

  boxed : (p : Part) → PartOk k shape p → Boxed shape p.subset
  boxed p ok = record { numbers = ok.numbers; full = ok.full }

  array_fits : (qs : List Part) → All (PartOk k shape) qs → All (parts.Fits kind sh array_in) qs
  array_fits qs s = All-map (PartOk k shape) (parts.Fits kind sh array_in) (λ p ok. record { boxed = boxed p ok; array = ok.valid.content; small = ok.valid.small }) qs s

  seen_fits : (qs : List Part) → All (PartOk k shape) qs → All (parts.Fits kind sh seen_in) qs
  seen_fits qs s =
      All-map (PartOk k shape) (parts.Fits kind sh seen_in)
      (λ p ok.
      let w : Valid k (shape_of shape p.subset) (seen_in p) = (shows k (shape_of shape p.subset) p.rights p.array ok.valid some ok.rights).valid in
      record { boxed = boxed p ok; array = w.content; small = w.small })
      qs s

  plane_parts : (qs : List Part) → All (PartOk k shape) qs → All (parts.Fits plane_kind_ok sh plane_in) qs
  plane_parts qs s =
      All-map (PartOk k shape) (parts.Fits plane_kind_ok sh plane_in)
      (λ p ok. record {
        boxed = boxed p ok;
        array = plane_fits ok.rights.counted;
        small = subst (λ (m : ℕ). m ≤ most_bytes) (sym ok.rights.counted) (plane_small (volume (shape_of shape p.subset)) ok.valid.shaped.few_cells);
      })
      qs s

  once : Once n js
  once = once_each shape (subsets_in shape ps) (parts.fit_parts shape ps (parts.boxes kind sh array_in ps (array_fits ps oks))) cover

  abbrev cells : List Part → List (Cell k.depth)
  cells qs = parts.all_own kind sh array_in qs

  abbrev planes : List Part → List ℕ
  planes qs = joined (map (λ (p : Part). p.rights) qs)

  -- a byte of a plane for each cell
  even : (qs : List Part) → All (PartOk k shape) qs → length (planes qs) ≡ length (cells qs)
  even [] s = refl
  even (q ∷ qs) s =
      length-append q.rights (planes qs)
      ∙ ap₂ (λ (x y : ℕ). x + y) (s.0.rights.counted ∙ sym (parts.good_own kind sh array_in q (array_fits (q ∷ qs) s).0).counted) (even qs s.1)
      ∙ sym (length-append (parts.own kind sh array_in q) (cells qs))

  -- the cells of what is seen, and of the planes
  seen_cells : (qs : List Part) → All (PartOk k shape) qs → parts.all_own kind sh seen_in qs ≡ veiled k (planes qs) (cells qs)
  seen_cells [] s = refl
  seen_cells (q ∷ qs) s =
      let same : length q.rights ≡ length (parts.own kind sh array_in q) = s.0.rights.counted ∙ sym (parts.good_own kind sh array_in q (array_fits (q ∷ qs) s).0).counted in
      ap₂ (λ (x y : List (Cell k.depth)). x ++ y) (form_cells s.0.valid.content s.0.valid.small some q.rights s.0.rights.counted) (seen_cells qs s.1)
      ∙ sym (map-append (veil k) (pair_up q.rights (parts.own kind sh array_in q)) (pair_up (planes qs) (cells qs)))
      ∙ ap (map (veil k)) (sym (pairs-append q.rights (parts.own kind sh array_in q) (planes qs) (cells qs) same))

  single_planes : (qs : List Part) → All (PartOk k shape) qs → parts.all_own plane_kind_ok sh plane_in qs ≡ map single (planes qs)
  single_planes [] s = refl
  single_planes (q ∷ qs) s =
      ap₂ (λ (x y : List Value). x ++ y) (plane_cells q.rights s.0.rights.counted) (single_planes qs s.1)
      ∙ sym (map-append single q.rights (planes qs))

  -- ---- what is merged

  abbrev whole_array : Content
  whole_array = parts.merged_form kind sh array_in ps (array_fits ps oks) once

  abbrev whole_plane : List ℕ
  whole_plane = put_back 0 n js (planes ps)

  plane_is : (parts.merged_form plane_kind_ok sh plane_in ps (plane_parts ps oks) once).values ≡ whole_plane
  plane_is =
      ap (λ (vs : List Value). joined (leaves 0 (put_back (single 0) n js vs))) (single_planes ps oks)
      ∙ ap (λ (vs : List Value). joined (leaves 0 vs)) (put_back-map single 0 n js (planes ps)) ∙ singles_joined whole_plane

  planes_strict : (qs : List Part) → All (PartOk k shape) qs → All Strict (planes qs)
  planes_strict [] s = tt
  planes_strict (q ∷ qs) s = All-append Strict q.rights (planes qs) s.0.rights.strict (planes_strict qs s.1)

  plane_ok : RightsOk n whole_plane
  plane_ok = record { counted = length-put_back 0 n js (planes ps); strict = put_back_all Strict 0 (omega arith) n js (planes ps) (planes_strict ps oks) }

  -- what is seen of the whole is the whole of what is seen
  same_form : length (joined (leaves k.depth (cells ps))) ≤ most_bytes
      → parts.merged_form kind sh seen_in ps (seen_fits ps oks) once ≡ guest_form k n whole_plane whole_array
  same_form small =
      let g : Good k n (parts.merged_cells kind sh array_in ps (array_fits ps oks) once) = parts.good_merged kind sh array_in ps (array_fits ps oks) once small in
      let v : Valid k shape whole_array = laid_valid kind sh g in
      ap (layout k.form k.depth)
      (ap (put_back nc n js) (seen_cells ps oks) ∙ put_back-map (veil k) (0, nc) n js (pair_up (planes ps) (cells ps))
      ∙ ap (map (veil k)) (pairs-put_back nc n js (planes ps) (cells ps) (even ps oks))
      ∙ ap (veiled k whole_plane) (sym (cells_layout k n (parts.merged_cells kind sh array_in ps (array_fits ps oks) once) g.counted g.sized)))
      ∙ sym (form_is v.content v.small some whole_plane plane_ok.counted)

  -- ---- the parts read

  each_read : (qs : List Part) → All (PartOk k shape) qs → read_each k shape qs ≡ gives (whole (laid_out seen_in qs))
  each_read [] s = refl
  each_read (q ∷ qs) s =
      ap₂ (λ (x y : Answer Taken). and_then x (λ a. and_then y (λ b. gives (whole (follow a.content b.content)))))
      (ap taken (read_puts s.0.valid some s.0.rights q.seen) ∙ put_taken q.seen s.0.seen) (each_read qs s.1)

  -- ---- the two ways

  few_planes : length (joined (leaves 0 (parts.all_own plane_kind_ok sh plane_in ps))) ≤ most_bytes
  few_planes =
      let many : length (planes ps) ≤ n =
      subst (λ (m : ℕ). m ≤ n) (sym (even ps oks ∙ parts.as_many kind sh array_in ps (array_fits ps oks)))
      (places_few n js (all_below shape (subsets_in shape ps) (parts.fit_parts shape ps (parts.boxes kind sh array_in ps (array_fits ps oks)))) once) in
      subst (λ (l : List ℕ). length l ≤ most_bytes) (sym (ap (λ (vs : List Value). joined (leaves 0 vs)) (single_planes ps oks) ∙ singles_joined (planes ps)))
      (le_trans many (plane_small n sh.few_cells))

  plane_puts : (plane : Content) → merged plane_kind shape (numbers_of ps) (laid_out plane_in ps) plane
      ≡ put_into (parts.merged_form plane_kind_ok sh plane_in ps (plane_parts ps oks) once) plane
  plane_puts plane =
      let form : Content = parts.merged_form plane_kind_ok sh plane_in ps (plane_parts ps oks) once in
      parts.merge_puts plane_kind_ok sh plane_in ps (plane_parts ps oks) once plane
      ∙ ap (λ (a : Answer Content). content_outcome a plane) (pass 5 (size_test_lem (length (joined (leaves 0 (parts.all_own plane_kind_ok sh plane_in ps)))) few_planes) refl)

  plane_room : (plane : Content) → n ≤ length plane.values → Enough (parts.merged_form plane_kind_ok sh plane_in ps (plane_parts ps oks) once) (lengths_of plane)
  plane_room plane h = record {
    for_masks = omega arith;
    for_values = subst (λ (l : List ℕ). length l ≤ length plane.values) (sym plane_is) (subst (λ (m : ℕ). m ≤ length plane.values) (sym plane_ok.counted) h);
    for_offsets = omega arith;
  }

  seen_small : length (joined (leaves k.depth (cells ps))) ≤ most_bytes → length (joined (leaves k.depth (parts.all_own kind sh seen_in ps))) ≤ most_bytes
  seen_small small =
      subst (λ (xs : List (Cell k.depth)). length (joined (leaves k.depth xs)) ≤ most_bytes) (sym (seen_cells ps oks))
      (omega (arith, small, veiled_less k (planes ps) (cells ps) (even ps oks) (parts.sized_all kind sh array_in ps (array_fits ps oks) once)))

  then_merge : length (joined (leaves k.depth (cells ps))) ≤ most_bytes → (out : Content)
      → read_then_merge k shape ps out ≡ put_into (parts.merged_form kind sh seen_in ps (seen_fits ps oks) once) out
  then_merge small out =
      ap (λ (a : Answer Taken). next_call a (λ x. merged k shape (numbers_of ps) x out) out) (each_read ps oks)
      ∙ parts.merge_puts kind sh seen_in ps (seen_fits ps oks) once out
      ∙ ap (λ (a : Answer Content). content_outcome a out) (pass 5 (size_test_lem (length (joined (leaves k.depth (parts.all_own kind sh seen_in ps)))) (seen_small small)) refl)

  -- a merge that is not refused is neither too large nor too long for its outputs
  abbrev NotRefused : Bool → Bool → Content → Type 0
  NotRefused small room merge = (e : ℕ) → (content_outcome (unless small 5 (if_room room whole_array)) merge).answer ≡ refuses e → ⊥

  is_small : (small room : Bool) (merge : Content) → NotRefused small room merge → small ≡ true
  is_small true room merge h = refl
  is_small false room merge h = absurd (h 5 refl)

  has_room : (small room : Bool) (merge : Content) → NotRefused small room merge → room ≡ true
  has_room false room merge h = absurd (h 5 refl)
  has_room true true merge h = refl
  has_room true false merge h = absurd (h 6 refl)

  then_read : (merge plane : Content) → (size_test (length (joined (leaves k.depth (cells ps)))) ≡ true) → Enough whole_array (lengths_of merge) → n ≤ length plane.values → (out : Content)
      → merge_then_read k shape ps merge plane out ≡ put_into (guest_form k n whole_plane whole_array) out
  then_read merge plane small e h out =
      let v : Valid k shape whole_array = laid_valid kind sh (parts.good_merged kind sh array_in ps (array_fits ps oks) once (size_ok (length (joined (leaves k.depth (cells ps)))) small)) in
      let second : Content → Outcome Lengths Content =
      λ a. next_call (taken (merged plane_kind shape (numbers_of ps) (laid_out plane_in ps) plane)) (λ p. guest_read k shape p.values a out) out in
      let third : Content → Outcome Lengths Content = λ p. guest_read k shape p.values whole_array out in
      ap (λ (o : Outcome Lengths Content). next_call (taken o) second out)
      (parts.merge_puts kind sh array_in ps (array_fits ps oks) once merge
      ∙ ap (λ (a : Answer Content). content_outcome a merge) (pass 5 small refl))
      ∙ next_put merge e second out
      ∙ ap (λ (o : Outcome Lengths Content). next_call (taken o) third out) (plane_puts plane)
      ∙ next_put plane (plane_room plane h) third out
      ∙ ap (λ (l : List ℕ). guest_read k shape l whole_array out) plane_is
      ∙ read_puts v some plane_ok out

pub merges : Merges
merges k shape kind sh some ps oks cover merge plane free h out =
    let s : Bool = size_test (length (joined (leaves k.depth (cells kind sh some ps oks cover ps)))) in
    let w : Content = whole_array kind sh some ps oks cover in
    let r : Bool = enough_test w (lengths_of merge) in
    let answered : NotRefused kind sh some ps oks cover s r merge =
    λ e q. free e
    (ap (λ (o : Outcome Lengths Content). o.answer) (parts.merge_puts kind sh array_in ps (array_fits kind sh some ps oks cover ps oks) (once kind sh some ps oks cover) merge) ∙ q) in
    let small : s ≡ true = is_small kind sh some ps oks cover s r merge answered in
    let room : r ≡ true = has_room kind sh some ps oks cover s r merge answered in
    let few : length (joined (leaves k.depth (cells kind sh some ps oks cover ps))) ≤ most_bytes = size_ok (length (joined (leaves k.depth (cells kind sh some ps oks cover ps)))) small in
    then_merge kind sh some ps oks cover few out
    ∙ ap (λ (x : Content). put_into x out) (same_form kind sh some ps oks cover few)
    ∙ sym (then_read kind sh some ps oks cover merge plane small (enough_ok w (lengths_of merge) room) h out)
