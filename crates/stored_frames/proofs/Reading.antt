-- The walk and the reader of frames agree, over any form of the masks, and so do the planes and the values that follow from it.
-- Assumes nothing.
use mathlib.Core.Path.{◌≡◌, refl, sym, ap, ap₂, ◌∙◌}
use mathlib.Core.List.{List, [], ◌∷◌, ◌++◌, map}
use mathlib.Core.Bool.{Bool, true, false}
use Prim.Native.Nat.{ℕ, zero, suc, ◌+◌, ◌-◌, ◌≤◌}
use native.Mathlib.Omega.{arith}
use lib.Dec.{leb, eqb}
use lib.ListN.{length, take, drop, length-drop}
use lib.Seq.{drop-drop}
use borrow.Author.Tests.{eqb-true}
use Rattle.array.specs.Answer.{Answer, gives, refuses, and_then, unless}
use Rattle.array.specs.Lists.{joined}
use Rattle.array.specs.Bytes.{unle}
use Rattle.array.specs.Cells.{Value, Cell, blank}
use Rattle.array.specs.Content.{masks_of, leaves}
use Rattle.codec.specs.Mask.{MaskForm, get_mask}
use Rattle.codec.specs.Frame.{count_set, expand, content_of, read_frame}
use Rattle.codec.specs.Spread.{spread, plane_list, placed, innermost_plane}
use Rattle.codec.specs.MaskAt.{stored_mask}
use Rattle.mask.specs.Marks.{counted_in}
use Rattle.stored_frames.specs.Walk.{opened, entering, walked}
use Rattle.stored_frames.specs.Stored.{mask_in, content_at, stored_masks, cells_from, innermost_by, answer_by}
use Rattle.codec.proofs.SpreadLaws.{expand_none, planes_joined, planes_expand, leaves-expand, spread-spread, stacked, placed_stacked}

pub innermost_some : (r : ℕ → Answer (List Value)) (k : ℕ) → 1 ≤ k → innermost_by r k ≡ r k
innermost_some r zero h = absurd (omega arith)
innermost_some r (suc k) h = refl

module _ (mf : MaskForm) (z : Value) (r : List ℕ → ℕ → Answer (List Value)) where
  module _ (d : ℕ) (s : List ℕ) (at n : ℕ) where
    abbrev mask : List ℕ
    mask = mask_in mf s at n

    abbrev next : ℕ
    next = content_at mf at n

    -- what is walked below, and what the frame's reader answers by it
    abbrev below : ℕ → Answer (ℕ × ℕ)
    below k = walked mf d s next k

    abbrev answered : Answer (ℕ × ℕ) → Answer (List (Cell (suc d)))
    answered w = and_then w (answer_by mf z r (suc d) s at n)

    -- the frame's cells from those of its content
    up : Answer (List (Cell d)) → Answer (List (Cell (suc d)))
    up a = and_then a (λ xs. gives (expand (blank z d) mask xs))

    up_answer : {k : ℕ} → count_set mask ≡ k → (w : Answer (ℕ × ℕ)) → up (and_then w (answer_by mf z r d s next k)) ≡ answered w
    unfolding cells_from up
    up_answer {k} e (gives i) = go (innermost_by (r (drop i.0 s)) i.1)
      where
        go : (x : Answer (List Value)) → up (and_then x (λ vs. gives (cells_from mf z d s next k vs))) ≡ and_then x (λ vs. gives (cells_from mf z (suc d) s at n vs))
        go (gives vs) = ap (λ (c : ℕ). gives (expand (blank z d) mask (cells_from mf z d s next c vs))) (sym e)
        go (refuses f) = refl
    up_answer e (refuses f) = refl

    module _ (ih : (k : ℕ) → read_frame mf z r d (drop next s) (suc k) ≡ and_then (below (suc k)) (answer_by mf z r d s next (suc k))) where
      inner : (k : ℕ) → count_set mask ≡ k → up (content_of (length s - next) k (read_frame mf z r d (drop next s))) ≡ answered (entering s next below k)
      unfolding cells_from up
      inner zero e = go (eqb (length s - next) 0)
        where
          go : (t : Bool) → up (unless t 8 (gives [])) ≡ answered (unless t 8 (gives (next, 0)))
          go true = ap gives (expand_none (blank z d) mask [] (cells_from mf z d s next (count_set mask) []) e)
          go false = refl
      inner (suc k) e = ap up (ih k) ∙ up_answer e (below (suc k))

      -- what reads the mask and the c bytes behind it
      body : ℕ → List ℕ → List ℕ → Answer (List (Cell (suc d)))
      body c m rest = and_then (get_mask mf m n) (λ ms. and_then (content_of c (count_set ms) (read_frame mf z r d rest)) (λ xs. gives (expand (blank z d) ms xs)))

      -- with the test of the mask, or its refusal
      body_is : body (length s - next) (stored_mask mf s (at + 16) n) (drop next s) ≡ answered (and_then (counted_in mf (stored_mask mf s (at + 16) n) n) (entering s next below))
      unfolding body up
      body_is = go (mf.test (stored_mask mf s (at + 16) n) n)
        where
          go : (t : Bool) → and_then (unless t mf.refusal (gives mask)) (λ ms.
              and_then (content_of (length s - next) (count_set ms) (read_frame mf z r d (drop next s))) (λ xs. gives (expand (blank z d) ms xs)))
              ≡ answered (and_then (and_then (unless t mf.refusal (gives mask)) (λ ms. gives (count_set ms))) (entering s next below))
          go true = inner (count_set mask) refl
          go false = refl

      frame_step : (q : List ℕ) → q ≡ drop at s → read_frame mf z r (suc d) q n ≡ answered (and_then (opened mf q n) (entering s next below))
      unfolding read_frame opened body
      frame_step q eq =
          go (leb 16 (length q)) (eqb (length q) (16 + unle (take 8 q) + unle (take 8 (drop 8 q)))) (eqb (unle (take 8 q)) (mf.size n)) refl refl
        where
          em : stored_mask mf q 16 n ≡ stored_mask mf s (at + 16) n
          em = ap (λ (l : List ℕ). take (mf.size n) (drop 16 l)) eq ∙ ap (take (mf.size n)) (drop-drop 16 at s)

          er : drop (mf.size n) (drop 16 q) ≡ drop next s
          er =
              let e : at + 16 + mf.size n ≡ next = omega arith in
              ap (λ (l : List ℕ). drop (mf.size n) (drop 16 l)) eq ∙ ap (drop (mf.size n)) (drop-drop 16 at s)
              ∙ drop-drop (mf.size n) (at + 16) s ∙ ap (λ (k : ℕ). drop k s) e

          go : (a b c : Bool) → eqb (length q) (16 + unle (take 8 q) + unle (take 8 (drop 8 q))) ≡ b → eqb (unle (take 8 q)) (mf.size n) ≡ c
              → unless a 7 (unless b 8 (unless c 8 (body (unle (take 8 (drop 8 q))) (take (unle (take 8 q)) (drop 16 q)) (drop (unle (take 8 q)) (drop 16 q)))))
              ≡ answered (and_then (unless a 7 (unless b 8 (unless c 8 (counted_in mf (stored_mask mf q 16 n) n)))) (entering s next below))
          go false b c eb e = refl
          go true false c eb e = refl
          go true true false eb e = refl
          go true true true eb e =
              let m : unle (take 8 q) ≡ mf.size n = eqb-true _ _ e in
              let total : length q ≡ 16 + unle (take 8 q) + unle (take 8 (drop 8 q)) = eqb-true _ _ eb in
              let left : unle (take 8 (drop 8 q)) ≡ length s - next = omega (arith, ap length eq, length-drop at s) in
              ap₂ (λ (c k : ℕ). body c (take k (drop 16 q)) (drop k (drop 16 q))) left m
              ∙ ap₂ (body (length s - next)) em er
              ∙ body_is
              ∙ ap (λ (l : List ℕ). answered (and_then (counted_in mf l n) (entering s next below))) (sym em)

  -- a reader of some cells answers what the walk tells
  pub read_walked : (d : ℕ) (s : List ℕ) (at n : ℕ) → 1 ≤ n → read_frame mf z r d (drop at s) n ≡ and_then (walked mf d s at n) (answer_by mf z r d s at n)
  unfolding walked cells_from read_frame
  read_walked zero s at n h = sym (innermost_some (r (drop at s)) n h) ∙ base (innermost_by (r (drop at s)) n)
    where
      base : (x : Answer (List Value)) → x ≡ and_then x (λ vs. gives (cells_from mf z zero s at n vs))
      base (gives vs) = refl
      base (refuses e) = refl
  read_walked (suc d) s at n h = frame_step d s at n (λ k. read_walked d s (content_at mf at n) (suc k) (omega arith)) (drop at s) refl

-- ---- the planes of what was read

module _ (mf : MaskForm) (z : Value) where
  planes_from : (d : ℕ) (s : List ℕ) (at n : ℕ) (vs : List Value) → plane_list d (cells_from mf z d s at n vs) ≡ stacked (stored_masks mf d s at n)
  unfolding cells_from stored_masks
  planes_from zero s at n vs = refl
  planes_from (suc d) s at n vs =
      let m = mask_in mf s at n in
      let next = content_at mf at n in
      planes_expand z d m (cells_from mf z d s next (count_set m) vs)
      ∙ ap (λ (r : List (List ℕ)). m ∷ map (spread 0 m) r) (planes_from d s next (count_set m) vs)

  -- the mask of the first frame, and the planes placed below it
  pub masks_from : (d : ℕ) (s : List ℕ) (at n : ℕ) (vs : List Value) → masks_of (suc d) (cells_from mf z (suc d) s at n vs)
      ≡ mask_in mf s at n ++ joined (placed (mask_in mf s at n) (stored_masks mf d s (content_at mf at n) (count_set (mask_in mf s at n))))
  unfolding stored_masks
  masks_from d s at n vs =
      let m = mask_in mf s at n in
      planes_joined (suc d) (cells_from mf z (suc d) s at n vs) ∙ ap joined (planes_from (suc d) s at n vs)
      ∙ ap (λ (r : List (List ℕ)). m ++ joined r) (sym (placed_stacked m (stored_masks mf d s (content_at mf at n) (count_set m))))

  -- ---- the values of what was read

  leaves_below : (p : List ℕ) (d : ℕ) (s : List ℕ) (at n : ℕ) (vs : List Value)
      → spread z p (leaves d (cells_from mf z d s at n vs)) ≡ spread z (innermost_plane p (stored_masks mf d s at n)) vs
  unfolding cells_from stored_masks
  leaves_below p zero s at n vs = ap (spread z p) (leaves-zero vs)
    where
      leaves-zero : (vs : List Value) → leaves zero vs ≡ vs
      leaves-zero [] = refl
      leaves-zero (v ∷ vs) = ap (λ (r : List Value). v ∷ r) (leaves-zero vs)
  leaves_below p (suc d) s at n vs =
      let m = mask_in mf s at n in
      let next = content_at mf at n in
      ap (spread z p) (leaves-expand z d m (cells_from mf z d s next (count_set m) vs))
      ∙ sym (spread-spread z p m (leaves d (cells_from mf z d s next (count_set m) vs)))
      ∙ leaves_below (spread 0 p m) d s next (count_set m) vs

  -- the stored values, spread over the innermost plane
  pub leaves-from : (d : ℕ) (s : List ℕ) (at n : ℕ) (vs : List Value) → leaves (suc d) (cells_from mf z (suc d) s at n vs)
      ≡ spread z (innermost_plane (mask_in mf s at n) (stored_masks mf d s (content_at mf at n) (count_set (mask_in mf s at n)))) vs
  unfolding cells_from
  leaves-from d s at n vs =
      let m = mask_in mf s at n in
      let next = content_at mf at n in
      leaves-expand z d m (cells_from mf z d s next (count_set m) vs) ∙ leaves_below m d s next (count_set m) vs
