-- The cut of an array that keeps the rules: what it is by places, how long its masks are, and what the loops ask for it.
-- Assumes nothing.
use mathlib.Core.Path.{◌≡◌, sym, ap, ◌∙◌, subst}
use Prim.Native.Nat.{ℕ, ◌*◌, ◌≤◌, ◌<◌}
use native.Mathlib.Omega.{arith}
use mathlib.Core.List.{List}
use lib.ListN.{length}
use Rattle.array.specs.Lists.{All}
use Rattle.array.specs.Kind.{Kind, Form, fixed, ragged}
use Rattle.array.specs.Shape.{volume}
use Rattle.array.specs.Subset.{pairs}
use Rattle.subset.specs.Cells.{cells_of}
use Rattle.subset.specs.declared.walk.Subset.{Subset}
use Rattle.array.specs.Answer.{Outcome}
use Rattle.array.specs.Content.{Content, RaggedContent, ValuesOk}
use Rattle.array.specs.declared.answer.RaggedLengths.{RaggedLengths}
use Rattle.array.specs.Buffers.{over, put_into}
use Rattle.array.specs.Places.{planes_at}
use Rattle.chunks.specs.Cut.{cut_of}
use Rattle.chunks.specs.ReadThenCut.{ragged_of}
use Rattle.array.proofs.Places.{begins_rise, begins_end}
use Rattle.chunks.proofs.CutPlaces.{cut_by, cut_is}
use Rattle.subset.proofs.Rows.{asked_below, asked_count}
use Rattle.cut_ragged.specs.Source.{put_ragged}
use Rattle.extract.specs.Asked.{PlanesAsked, ValuesAsked, values_cut, ArrayAsked}
use Rattle.extract.proofs.Outcomes.{with_masks, masks_first}
use Rattle.extract.proofs.Walk.{planes_long}

-- where the values lie, by form
values_asked : (f : Form) (shape : List ℕ) (c : Content) → ValuesOk f (volume shape) c → ValuesAsked f c.values c.offsets shape
values_asked (fixed k o) shape c p = omega (arith, p.0)
values_asked (ragged w q) shape c p = record {
  there = omega (arith, p.0);
  rises = begins_rise (ragged w q) (volume shape) c p;
  data_room = omega (arith, begins_end (ragged w q) (volume shape) c p);
}

module _ {k : Kind} {cells : ℕ} (s : Subset) {c : Content} (a : ArrayAsked k cells s.shape.now c) where
  abbrev cut : Content
  cut = cut_of k s.shape.now c (pairs s.starts.now s.lens.now)

  -- ---- the parts, by places

  by_places : cut ≡ cut_by k cells c (cells_of s)
  by_places = cut_is s.shape.now a.content (pairs s.starts.now s.lens.now) s.asked.within.inside ∙ ap (λ (n : ℕ). cut_by k n c (cells_of s)) (sym a.whole)

  pub cut_masks : cut.masks ≡ planes_at k.depth 0 cells c.masks (cells_of s)
  cut_masks = ap (λ (x : Content). x.masks) by_places

  pub cut_values : ragged_of cut ≡ values_cut k.form c.values c.offsets (cells_of s)
  cut_values = ap ragged_of by_places

  -- ---- how long the masks are

  masks_fit : length c.masks ≡ k.depth * cells
  masks_fit = a.content.masks_fit ∙ ap (λ (n : ℕ). k.depth * n) (sym a.whole)

  pub cut_masks_long : length cut.masks ≡ k.depth * s.count
  cut_masks_long =
      ap length cut_masks
      ∙ planes_long cells c.masks (cells_of s) (subst (λ (n : ℕ). All (λ j. j < n) (cells_of s)) (sym a.whole) (asked_below s.asked)) (asked_count s.asked) k.depth masks_fit

  -- ---- what the loops ask

  pub cut_planes_asked : (out : List ℕ) → k.depth ≤ 255 → k.depth * s.count ≤ length out → PlanesAsked out c.masks k.depth cells s.shape.now s.count
  cut_planes_asked out d h = record { shallow = d; whole = a.whole; source = masks_fit; room = h }

  pub cut_values_asked : ValuesAsked k.form c.values c.offsets s.shape.now
  cut_values_asked = values_asked k.form s.shape.now c a.content.values_fit

  -- ---- the cut, where its values are put and its masks before them

  pub masks_before : (out : Content) → k.depth * s.count ≤ length out.masks → {o : Outcome RaggedLengths RaggedContent}
      → o ≡ put_ragged (values_cut k.form c.values c.offsets (cells_of s)) (ragged_of out)
      → with_masks (k.depth * s.count) (over cut.masks out.masks) out.masks o ≡ put_into cut out
  masks_before out h e = masks_first cut out cut_masks_long h (e ∙ ap (λ (x : RaggedContent). put_ragged x (ragged_of out)) (sym cut_values))
