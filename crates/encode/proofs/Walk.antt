-- The stored form by the numbers of the cells.
-- Assumes nothing.
use mathlib.Core.Path.{◌≡◌, refl, sym, ap, ap₂, ◌∙◌}
use Prim.Native.Nat.{ℕ, zero, suc, ◌+◌, ◌≤◌}
use native.Mathlib.Omega.{arith}
use mathlib.Core.Bool.{Bool, true, false, ◌&&◌}
use mathlib.Core.List.{List, [], ◌∷◌, map}
use Rattle.array.specs.Lists.{pick, from, passing}
use Rattle.array.specs.Kind.{Kind}
use Rattle.array.specs.Cells.{Value, Cell, set_test}
use Rattle.array.specs.Content.{Content, ContentOk}
use Rattle.array.specs.Places.{value_in, mask_at, masks_at, cell_by, shown_at}
use Rattle.array.proofs.Lists.{map-map}
use Rattle.array.proofs.LayoutLaws.{mask_map}
use Rattle.array.proofs.Numbered.{cells_are}
use Rattle.codec.specs.Mask.{mask_form}
use Rattle.codec.specs.Frame.{keep, wrap, unless_none, frame, live}
use Rattle.codec.specs.Values.{put_values}
use Rattle.codec.specs.Calls.{stored_form, values_left}
use Rattle.live_cells.specs.Live.{live_at}
use Rattle.live_cells.proofs.Runs.{live_all}
use Rattle.encode_values.specs.Stored.{level_of, stored_from}

unless-map : {A : Type 0} (g : ℕ → A) (f : List A → List ℕ) (h : List ℕ → List ℕ) (is : List ℕ) → f (map g is) ≡ h is → unless_none f (map g is) ≡ unless_none h is
unless-map g f h [] e = refl
unless-map g f h (i ∷ is) e = e

module _ (n : ℕ) (masks : List ℕ) (val : ℕ → Value) where
  -- cell i from level l inwards, d levels being left
  abbrev inner : (d l : ℕ) → ℕ → Cell d
  inner d l i = cell_by (λ j. mask_at n masks j i) (val i) d l

  -- of the cells that level l counts, those that are set there are what the next level counts
  keep_at : (d l : ℕ) (js : List ℕ)
      → keep (map (inner (suc d) l) (passing (shown_at n masks l) js)) ≡ map (inner d (suc l)) (passing (shown_at n masks (suc l)) js)
  keep_at d l [] = refl
  keep_at d l (j ∷ js) = go (shown_at n masks l j) (mask_at n masks l j) refl (keep_at d l js)
    where
      go : (b : Bool) (m : ℕ) → mask_at n masks l j ≡ m
          → keep (map (inner (suc d) l) (passing (shown_at n masks l) js)) ≡ map (inner d (suc l)) (passing (shown_at n masks (suc l)) js)
          → keep (map (inner (suc d) l) (pick b (j ∷ passing (shown_at n masks l) js) (passing (shown_at n masks l) js)))
          ≡ map (inner d (suc l)) (pick (b && set_test m) (j ∷ passing (shown_at n masks (suc l)) js) (passing (shown_at n masks (suc l)) js))
      go true zero q e = rw q e
      go true (suc zero) q e = rw q (ap (λ (r : List (Cell d)). inner d (suc l) j ∷ r) e)
      go true (suc (suc m)) q e = rw q e
      go false m q e = e

  -- the cells that are left below all levels, and their values
  left_at : (d l : ℕ) (js : List ℕ) → live d (map (inner d l) (passing (shown_at n masks l) js)) ≡ map val (passing (shown_at n masks (d + l)) js)
  left_at zero l js = let e : l ≡ 0 + l = omega arith in ap (λ (m : ℕ). map val (passing (shown_at n masks m) js)) e
  left_at (suc d) l js =
      let e : d + suc l ≡ suc d + l = omega arith in
      ap (live d) (keep_at d l js) ∙ left_at d (suc l) js ∙ ap (λ (m : ℕ). map val (passing (shown_at n masks m) js)) e

-- the values that are written
pub left_by : {k : Kind} {n : ℕ} {c : Content} → ContentOk k n c → values_left k n c ≡ map (value_in k.form c) (live_at n c.masks k.depth)
left_by {k} {n} {c} ok =
    let z : k.depth + 0 ≡ k.depth = omega arith in
    ap (live k.depth) (cells_are ok)
    ∙ ap (λ (is : List ℕ). live k.depth (map (inner n c.masks (value_in k.form c) k.depth 0) is)) (sym (live_all n c.masks))
    ∙ left_at n c.masks (value_in k.form c) k.depth 0 (from 0 n)
    ∙ ap (λ (l : ℕ). map (value_in k.form c) (live_at n c.masks l)) z

-- a content with so many levels left is the frame of the cells that the level counts
module _ (k : Kind) (n : ℕ) (c : Content) where
  abbrev framed : (d : ℕ) → List (Cell d) → List ℕ
  framed d cs = frame (mask_form k.masks) (put_values k.form) d cs

  abbrev cell : (d l : ℕ) → ℕ → Cell d
  cell d l i = inner n c.masks (value_in k.form c) d l i

  from-frame : (d : ℕ) → d ≤ k.depth → unless_none (framed d) (map (cell d (level_of k d)) (live_at n c.masks (level_of k d))) ≡ stored_from k n c d
  unfolding stored_from frame
  from-frame zero h =
      let e : level_of k zero ≡ k.depth = omega arith in
      unless-map (value_in k.form c) (put_values k.form) (λ is. put_values k.form (map (value_in k.form c) is)) (live_at n c.masks (level_of k zero)) refl
      ∙ ap (λ (l : ℕ). unless_none (λ is. put_values k.form (map (value_in k.form c) is)) (live_at n c.masks l)) e
  from-frame (suc d) h =
      let l : ℕ = level_of k (suc d) in
      let e : suc l ≡ level_of k d = omega arith in
      unless-map (cell (suc d) l) (framed (suc d)) (λ is. wrap ((mask_form k.masks).put (masks_at n c.masks l is)) (stored_from k n c d)) (live_at n c.masks l)
      (ap₂ (λ (ms ct : List ℕ). wrap ((mask_form k.masks).put ms) ct) (mask_map (map (cell (suc d) l) (live_at n c.masks l)) ∙ map-map (cell (suc d) l) (λ x. x.0) (live_at n c.masks l))
      (ap (unless_none (framed d)) (keep_at n c.masks (value_in k.form c) d l (from 0 n) ∙ ap (λ (j : ℕ). map (cell d j) (live_at n c.masks j)) e)
      ∙ from-frame d (omega arith)))

unless_some : {A : Type 0} (f : List A → List ℕ) (g : ℕ → A) (n : ℕ) → 1 ≤ n → unless_none f (map g (from 0 n)) ≡ f (map g (from 0 n))
unless_some f g zero h = absurd (omega arith)
unless_some f g (suc n) h = refl

-- with all levels left it is the stored form
pub stored_by : {k : Kind} {n : ℕ} {c : Content} → ContentOk k n c → 1 ≤ n → stored_form k n c ≡ stored_from k n c k.depth
stored_by {k} {n} {c} ok some =
    let z : 0 ≡ level_of k k.depth = omega arith in
    ap (framed k n c k.depth) (cells_are ok)
    ∙ sym (unless_some (framed k n c k.depth) (cell k n c k.depth 0) n some)
    ∙ ap (λ (is : List ℕ). unless_none (framed k n c k.depth) (map (cell k n c k.depth 0) is)) (sym (live_all n c.masks))
    ∙ ap (λ (l : ℕ). unless_none (framed k n c k.depth) (map (cell k n c k.depth l) (live_at n c.masks l))) z
    ∙ from-frame k n c k.depth (omega arith)
