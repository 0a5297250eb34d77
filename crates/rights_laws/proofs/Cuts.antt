-- Reading and then cutting is cutting array and plane and then reading (specs/Laws, Cuts).
-- Assumes nothing.
use mathlib.Core.Path.{◌≡◌, sym, ap, ◌∙◌, subst}
use Prim.Native.Nat.{ℕ, ◌≤◌, ◌<◌}
use native.Mathlib.Omega.{arith}
use mathlib.Core.Bool.{Bool, true, false}
use mathlib.Core.List.{List, map}
use lib.ListN.{length, get_or, length-map}
use Rattle.array.specs.Answer.{Outcome}
use Rattle.array.specs.Limits.{most_bytes}
use Rattle.array.specs.Lists.{joined, All, count, pick}
use Rattle.array.specs.Kind.{Kind}
use Rattle.array.specs.Cells.{Cell, Strict}
use Rattle.array.specs.Shape.{volume, ShapeOk}
use Rattle.array.specs.Subset.{Subset, lengths, subset_of, NumbersOk, cells_in, coordinates, inside_test}
use Rattle.array.specs.Content.{Content, Valid, leaves, layout, pair_up, cells_of, null_cell}
use Rattle.array.specs.declared.answer.Lengths.{Lengths}
use Rattle.array.specs.Buffers.{lengths_of, Enough, content_outcome, put_into, taken}
use Rattle.array.proofs.Lists.{All-get_or, All-of, All-image}
use Rattle.array.proofs.SubsetLaws.{length-cells_in, cells_in_below, subset_shape, lengths_subset}
use Rattle.array.proofs.Geometry.{count_cells}
use Rattle.array.proofs.LayoutLaws.{Good, good_cells, cells_layout}
use Rattle.array.proofs.Resting.{laid_valid}
use Rattle.rights.specs.Rights.{RightsOk, guest_form}
use Rattle.rights.specs.Calls.{guest_read}
use Rattle.rights.proofs.Seeing.{shows}
use Rattle.chunks.specs.Gather.{gather}
use Rattle.chunks.specs.Cut.{cells_at, cut_of}
use Rattle.chunks.specs.Calls.{extracted}
use Rattle.chunks.specs.Demand.{shape_of}
use Rattle.chunks.specs.ReadThenCut.{next_call}
use Rattle.chunks.proofs.Gather.{gather-map}
use Rattle.chunks.proofs.Calls.{extract_any}
use Rattle.chunks.proofs.GoodCells.{good_gather}
use Rattle.rights_laws.specs.Planes.{plane_kind, plane_array}
use Rattle.rights_laws.specs.Laws.{Seen, Cuttable, cut_then_read, Cuts}
use Rattle.rights_laws.proofs.Pairs.{pairs-gather}
use Rattle.rights_laws.proofs.Seen.{veil, veiled, form_is, form_cells, read_puts, next_put}
use Rattle.rights_laws.proofs.PlaneArrays.{plane_kind_ok, plane_fits, plane_small, single, plane_cells, singles_joined}

-- a cut of a valid array is refused by nothing but 6
pub extract_puts : {k : Kind} {shape ns : List ℕ} {c : Content} → Valid k shape c → NumbersOk shape ns → (out : Content)
    → extracted k shape ns c out ≡ put_into (cut_of k shape c (subset_of (length shape) ns)) out
unfolding extracted
extract_puts v p out = ap (λ a. content_outcome a out) (extract_any v p (lengths_of out))

-- no cell stands twice in a subset
pub once_in : {shape : List ℕ} {ns : List ℕ} → NumbersOk shape ns → (i : ℕ) → i < volume shape → count i (cells_in shape (subset_of (length shape) ns)) ≤ 1
once_in {shape} {ns} p i h = subst (λ (m : ℕ). m ≤ 1) (sym (count_cells shape (subset_of (length shape) ns) p.fits i h)) (one (inside_test (subset_of (length shape) ns) (coordinates shape i)))
  where
    one : (b : Bool) → pick b 1 0 ≤ 1
    one true = omega arith
    one false = omega arith

module _ {k : Kind} {shape rights ns : List ℕ} {c : Content} (v : Valid k shape c) (some : 0 < k.depth) (r : RightsOk (volume shape) rights) (q : Cuttable k shape rights ns c) where
  abbrev n : ℕ
  n = volume shape

  abbrev b : Subset
  b = subset_of (length shape) ns

  abbrev js : List ℕ
  js = cells_in shape b

  abbrev ls : List ℕ
  ls = shape_of shape ns

  abbrev nc : Cell k.depth
  nc = null_cell k

  same_lengths : lengths b ≡ ls
  same_lengths = lengths_subset (length shape) ns q.numbers.counted

  many : length js ≡ volume ls
  many = length-cells_in shape b q.numbers.fits ∙ ap volume same_lengths

  shaped : ShapeOk ls
  shaped = subst ShapeOk same_lengths (subset_shape shape b v.shaped q.numbers.fits (subst (All (λ m. 1 ≤ m)) (sym same_lengths) q.full))

  own : Good k n (cells_of k n c)
  own = good_cells k n c v.content v.small

  -- the cut, and the plane's cut
  good_cut : Good k (volume ls) (cells_at k shape c b)
  good_cut =
      subst (λ (m : ℕ). Good k m (cells_at k shape c b)) many
      (good_gather k n (cells_of k n c) own js (cells_in_below shape b q.numbers.fits) (once_in q.numbers))

  cut_valid : Valid k ls (cut_of k shape c b)
  cut_valid = laid_valid v.kind shaped good_cut

  abbrev plane_cut : List ℕ
  plane_cut = gather 0 rights js

  plane_cut_ok : RightsOk (volume ls) plane_cut
  plane_cut_ok = record {
    counted = length-map js (λ i. get_or rights i 0) ∙ many;
    strict = All-image Strict (λ i. get_or rights i 0) js (All-of (λ i. Strict (get_or rights i 0)) (All-get_or Strict 0 (omega arith) rights r.strict) js);
  }

  plane_valid : Valid plane_kind shape (plane_array rights)
  plane_valid = record { kind = plane_kind_ok; shaped = v.shaped; content = plane_fits r.counted; small = subst (λ (m : ℕ). m ≤ most_bytes) (sym r.counted) (plane_small n v.shaped.few_cells) }

  plane_is : (cut_of plane_kind shape (plane_array rights) b).values ≡ plane_cut
  plane_is =
      ap (λ (vs : List (List ℕ)). joined (leaves 0 (gather (single 0) vs js))) (plane_cells rights r.counted)
      ∙ ap (λ (vs : List (List ℕ)). joined (leaves 0 vs)) (gather-map single 0 rights js) ∙ singles_joined plane_cut

  -- what is seen of the cut is the cut of what is seen
  same_form : cut_of k shape (guest_form k n rights c) b ≡ guest_form k (volume ls) plane_cut (cut_of k shape c b)
  same_form =
      let xs : List (Cell k.depth) = cells_of k n c in
      let even : length rights ≡ length xs = r.counted ∙ sym own.counted in
      ap (λ (ys : List (Cell k.depth)). layout k.form k.depth (gather nc ys js)) (form_cells v.content v.small some rights r.counted)
      ∙ ap (layout k.form k.depth)
      (gather-map (veil k) (0, nc) (pair_up rights xs) js ∙ ap (map (veil k)) (pairs-gather nc rights xs even js)
      ∙ ap (veiled k plane_cut) (sym (cells_layout k (volume ls) (cells_at k shape c b) good_cut.counted good_cut.sized)))
      ∙ sym (form_is cut_valid.content cut_valid.small some plane_cut plane_cut_ok.counted)

  -- ---- the two ways

  plane_room : (plane : Content) → volume ls ≤ length plane.values → Enough (cut_of plane_kind shape (plane_array rights) b) (lengths_of plane)
  plane_room plane h = record {
    for_masks = omega arith;
    for_values = subst (λ (l : List ℕ). length l ≤ length plane.values) (sym plane_is) (subst (λ (m : ℕ). m ≤ length plane.values) (sym plane_cut_ok.counted) h);
    for_offsets = omega arith;
  }

  then_cut : (seen : Content) → Seen k shape rights c seen → (out : Content)
      → next_call (taken (guest_read k shape rights c seen)) (λ x. extracted k shape ns x out) out ≡ put_into (cut_of k shape (guest_form k n rights c) b) out
  then_cut seen e out =
      let w : Valid k shape (guest_form k n rights c) = (shows k shape rights c v some r).valid in
      ap (λ (o : Outcome Lengths Content). next_call (taken o) (λ x. extracted k shape ns x out) out) (read_puts v some r seen)
      ∙ next_put seen e (λ x. extracted k shape ns x out) out ∙ extract_puts w q.numbers out

  then_read : (cut plane : Content) → Enough (cut_of k shape c b) (lengths_of cut) → volume ls ≤ length plane.values → (out : Content)
      → cut_then_read k shape rights ns c cut plane out ≡ put_into (guest_form k (volume ls) plane_cut (cut_of k shape c b)) out
  then_read cut plane e h out =
      let second : Content → Outcome Lengths Content =
      λ a. next_call (taken (extracted plane_kind shape ns (plane_array rights) plane)) (λ p. guest_read k ls p.values a out) out in
      let third : Content → Outcome Lengths Content = λ p. guest_read k ls p.values (cut_of k shape c b) out in
      ap (λ (o : Outcome Lengths Content). next_call (taken o) second out) (extract_puts v q.numbers cut)
      ∙ next_put cut e second out
      ∙ ap (λ (o : Outcome Lengths Content). next_call (taken o) third out) (extract_puts plane_valid q.numbers plane)
      ∙ next_put plane (plane_room plane h) third out
      ∙ ap (λ (l : List ℕ). guest_read k ls l (cut_of k shape c b) out) plane_is
      ∙ read_puts cut_valid some plane_cut_ok out

pub cuts : Cuts
cuts k shape rights ns c v some r q seen cut plane e f h out =
    then_cut v some r q seen e out ∙ ap (λ (x : Content). put_into x out) (same_form v some r q) ∙ sym (then_read v some r q cut plane f h out)
