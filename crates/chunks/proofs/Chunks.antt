-- A list of chunks is taken apart as it was laid end to end.
-- Assumes nothing.
use mathlib.Core.Path.{◌≡◌, refl, sym, ap, ◌∙◌}
use Prim.Native.Nat.{ℕ, suc, ◌*◌}
use native.Mathlib.Nat.{zero-add}
use mathlib.Core.List.{List, ◌++◌}
use lib.ListN.{length, take, drop, length-map}
use lib.Seq.{take_at, drop_at}
use Rattle.array.specs.Lists.{joined}
use Rattle.array.specs.Kind.{Kind, Form, fixed, ragged}
use Rattle.array.specs.Offsets.{offsets_of}
use Rattle.array.specs.Cells.{Value, Cell, leaf}
use Rattle.array.specs.Content.{Content, leaves, layout, masks_of, offsets_for}
use Rattle.array.proofs.Lists.{length-joined}
use Rattle.array.proofs.Offsets.{length-ends, last-ends}
use Rattle.array.proofs.Sizes.{SizedAs}
use Rattle.array.proofs.LayoutLaws.{content_path, length-masks_of, Good}
use Rattle.chunks.specs.Chunks.{follow, offset_count, value_count, first_chunk, later_chunks}

first_offsets : (f : Form) (vs : List Value) (m : ℕ) (os : List ℕ) → length vs ≡ m → take (offset_count f m) (offsets_for f vs ++ os) ≡ offsets_for f vs
first_offsets (fixed k o) vs m os e = refl
first_offsets (ragged w p) vs m os e = take_at (offsets_of vs) os (suc m) (ap suc (length-ends 0 vs ∙ e))

later_offsets : (f : Form) (vs : List Value) (m : ℕ) (os : List ℕ) → length vs ≡ m → drop (offset_count f m) (offsets_for f vs ++ os) ≡ os
later_offsets (fixed k o) vs m os e = refl
later_offsets (ragged w p) vs m os e = drop_at (offsets_of vs) os (suc m) (ap suc (length-ends 0 vs ∙ e))

value_count_lem : (f : Form) (vs : List Value) (m : ℕ) → length vs ≡ m → SizedAs f vs → length (joined vs) ≡ value_count f m (offsets_for f vs)
value_count_lem (fixed k o) vs m e s = length-joined k vs s ∙ ap (λ (n : ℕ). n * k) e
value_count_lem (ragged w p) vs m e s = sym (last-ends 0 vs ∙ zero-add (length (joined vs)))

module _ (k : Kind) (m : ℕ) (xs : List (Cell k.depth)) (g : Good k m xs) (t : Content) where
  abbrev vals : List Value
  vals = leaves k.depth xs

  lv : length vals ≡ m
  lv = length-map xs (leaf k.depth) ∙ g.counted

  lp : length (masks_of k.depth xs) ≡ k.depth * m
  lp = length-masks_of k.depth xs ∙ ap (λ (n : ℕ). k.depth * n) g.counted

  pub first_chunk_lem : first_chunk k m (follow (layout k.form k.depth xs) t) ≡ layout k.form k.depth xs
  first_chunk_lem =
      let eo = first_offsets k.form vals m t.offsets lv in
      content_path (take_at (masks_of k.depth xs) t.masks (k.depth * m) lp)
      (ap (λ (os : List ℕ). take (value_count k.form m os) (joined vals ++ t.values)) eo
      ∙ take_at (joined vals) t.values (value_count k.form m (offsets_for k.form vals)) (value_count_lem k.form vals m lv g.sized))
      eo

  pub later_chunks_lem : later_chunks k m (follow (layout k.form k.depth xs) t) ≡ t
  later_chunks_lem =
      let eo = first_offsets k.form vals m t.offsets lv in
      content_path (drop_at (masks_of k.depth xs) t.masks (k.depth * m) lp)
      (ap (λ (os : List ℕ). drop (value_count k.form m os) (joined vals ++ t.values)) eo
      ∙ drop_at (joined vals) t.values (value_count k.form m (offsets_for k.form vals)) (value_count_lem k.form vals m lv g.sized))
      (later_offsets k.form vals m t.offsets lv)
