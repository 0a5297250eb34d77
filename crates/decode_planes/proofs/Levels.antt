-- The planes below a plane, level by level, as they are laid behind it.
-- Assumes nothing.
use mathlib.Core.Path.{◌≡◌, refl, sym, ap, ap₂, ◌∙◌, subst}
use mathlib.Core.Logic.{◌≢◌}
use mathlib.Core.List.{List, ◌++◌, append_assoc, append-nil}
use Prim.Native.Nat.{ℕ, zero, suc, ◌+◌, ◌-◌, ◌*◌, ◌≤◌}
use native.Mathlib.Omega.{arith}
use native.Mathlib.Nat.{suc-mul, zero-mul}
use native.Mathlib.Numerals.{sub-one}
use lib.ListN.{length, take, drop, replicate, length-append, length-drop, replicate-append-replicate, take-append-drop}
use lib.Seq.{length-take-le}
use Rattle.array.specs.Kind.{Masks}
use Rattle.array.specs.Buffers.{over, over_at}
use Rattle.array.proofs.Over.{over_again, over_at_length}
use Rattle.codec.specs.Mask.{MaskForm, mask_form}
use Rattle.codec.specs.Frame.{count_set}
use Rattle.codec.specs.Spread.{spread}
use Rattle.codec.proofs.Marks.{count_zeros}
use Rattle.codec.proofs.SpreadLaws.{length-spread, spread_none, count-spread}
use Rattle.stored_frames.specs.Stored.{mask_in, content_at, stored_masks, planes_below, MaskPassed, MasksWithin}
use Rattle.stored_frames.proofs.Walks.{mask_long}
use Rattle.decode_planes.specs.Within.{PlaneWithin, LevelsWithin}
use Rattle.decode_planes.proofs.Placing.{plane_again}

pub masked : {d : ℕ} → 1 ≤ d → d ≢ 0
masked h = λ e. absurd (omega arith)

-- k rows of n, all but the first
pub times_first : (k n : ℕ) → k ≢ 0 → k * n ≡ (k - 1) * n + n
times_first zero n h = absurd (h refl)
times_first (suc k) n h = suc-mul k n ∙ ap (λ (j : ℕ). j * n + n) (sym (sub-one (suc k)))

pub some_of : (n : ℕ) → n ≢ 0 → 1 ≤ n
some_of zero f = absurd (f refl)
some_of (suc n) f = omega arith

-- ---- the planes below a plane

module _ (mf : MaskForm) where
  below_none : (d : ℕ) (p s : List ℕ) (at n : ℕ) → count_set p ≡ 0 → planes_below mf p d s at n ≡ replicate (d * length p) 0
  unfolding planes_below stored_masks
  below_none zero p s at n e = ap (λ (k : ℕ). replicate {A = ℕ} k 0) (sym (zero-mul (length p)))
  below_none (suc d) p s at n e =
      let m : List ℕ = mask_in mf s at n in
      let q : List ℕ = spread 0 p m in
      let eq : q ≡ replicate (length p) 0 = spread_none 0 p m e in
      let lq : length q ≡ length p = length-spread 0 p m in
      let cq : count_set q ≡ 0 = ap count_set eq ∙ count_zeros (length p) in
      let k : length p + d * length p ≡ suc d * length p = omega (arith, suc-mul d (length p)) in
      ap₂ (λ (a b : List ℕ). a ++ b) eq (below_none d q s (content_at mf at n) (count_set m) cq ∙ ap (λ (j : ℕ). replicate {A = ℕ} (d * j) 0) lq)
      ∙ replicate-append-replicate (length p) (d * length p) 0 ∙ ap (λ (j : ℕ). replicate {A = ℕ} j 0) k

  pub below_length : (d : ℕ) (p s : List ℕ) (at n : ℕ) → length (planes_below mf p d s at n) ≡ d * length p
  unfolding planes_below stored_masks
  below_length zero p s at n = sym (zero-mul (length p))
  below_length (suc d) p s at n =
      let m : List ℕ = mask_in mf s at n in
      let q : List ℕ = spread 0 p m in
      let lq : length q ≡ length p = length-spread 0 p m in
      let ih : length (planes_below mf q d s (content_at mf at n) (count_set m)) ≡ d * length p = below_length d q s (content_at mf at n) (count_set m) ∙ ap (λ (j : ℕ). d * j) lq in
      length-append q (planes_below mf q d s (content_at mf at n) (count_set m)) ∙ omega (arith, suc-mul d (length p))

  below_step : (left : ℕ) (p s : List ℕ) (at n : ℕ) → left ≢ 0
      → planes_below mf p left s at n
      ≡ spread 0 p (mask_in mf s at n) ++ planes_below mf (spread 0 p (mask_in mf s at n)) (left - 1) s (content_at mf at n) (count_set (mask_in mf s at n))
  unfolding planes_below stored_masks
  below_step zero p s at n f = absurd (f refl)
  below_step (suc d) p s at n f =
      ap (λ (j : ℕ). spread 0 p (mask_in mf s at n) ++ planes_below mf (spread 0 p (mask_in mf s at n)) j s (content_at mf at n) (count_set (mask_in mf s at n)))
      (sym (sub-one (suc d)))

  below_last : {left : ℕ} (p s : List ℕ) (at n : ℕ) → left ≡ 1 → planes_below mf p left s at n ≡ spread 0 p (mask_in mf s at n)
  unfolding planes_below stored_masks
  below_last p s at n e =
      ap (λ (k : ℕ). planes_below mf p k s at n) e ∙ append-nil (spread 0 p (mask_in mf s at n))

  -- ---- masks within the bytes

  pub within_now : (left : ℕ) (s : List ℕ) (at n : ℕ) → MasksWithin mf left s at n → left ≢ 0 → n ≢ 0 → MaskPassed mf s at n
  unfolding MasksWithin
  within_now zero s at n h f g = absurd (f refl)
  within_now (suc d) s at n h f g = h.0 (some_of n g)

  pub within_next : (left : ℕ) (s : List ℕ) (at n : ℕ) → MasksWithin mf left s at n → left ≢ 0 → MasksWithin mf (left - 1) s (content_at mf at n) (count_set (mask_in mf s at n))
  unfolding MasksWithin
  within_next zero s at n h f = absurd (f refl)
  within_next (suc d) s at n h f = subst (λ (j : ℕ). MasksWithin mf j s (content_at mf at n) (count_set (mask_in mf s at n))) (sym (sub-one (suc d))) h.1

-- ---- a level: the plane above is the last that lies before `to` in d

module _ {x : Masks} {d : List ℕ} {n to left : ℕ} {s : List ℕ} {at cells : ℕ} (l : LevelsWithin x d n to left s at cells) where
  above_long : length (take n (drop (to - n) d)) ≡ n
  above_long = length-take-le n (drop (to - n) d) (omega (arith, length-drop (to - n) d, l.above, l.room))

  pub levels_none : left ≡ 0 → d ≡ over_at to (planes_below (mask_form x) (take n (drop (to - n) d)) left s at cells) d
  unfolding planes_below stored_masks
  levels_none e =
      sym (ap (λ (j : ℕ). over_at to (planes_below (mask_form x) (take n (drop (to - n) d)) j s at cells) d) e
      ∙ ap (λ (l : List ℕ). over l d) (append-nil (take to d)) ∙ ap (λ (j : ℕ). take to d ++ drop j d) (length-take-le to d (omega (arith, l.room))) ∙ take-append-drop to d)

  pub levels_null : cells ≡ 0 → {out : List ℕ} → out ≡ over_at to (replicate (left * n) 0) d → out ≡ over_at to (planes_below (mask_form x) (take n (drop (to - n) d)) left s at cells) d
  levels_null e eo =
      eo ∙ ap (λ (l : List ℕ). over_at to l d)
      (ap (λ (j : ℕ). replicate {A = ℕ} (left * j) 0) (sym above_long) ∙ sym (below_none (mask_form x) left (take n (drop (to - n) d)) s at cells (sym l.count ∙ e)))

  module _ (f : left ≢ 0) (g : cells ≢ 0) where
    pub levels_mask : MaskPassed (mask_form x) s at cells
    levels_mask = within_now (mask_form x) left s at cells l.within f g

    pub levels_fits : to + n + (left - 1) * n ≤ length d
    levels_fits = omega (arith, l.room, times_first left n f)

    pub levels_plane : PlaneWithin x d (to - n) to n s (at + 16) cells
    levels_plane = record {
      planes = record { apart = omega (arith, l.above); room = omega (arith, levels_fits); count = l.count };
      stored = omega (arith, levels_mask.room);
    }

    -- the last level is its plane
    pub levels_last : left ≡ 1 → {out : List ℕ} → out ≡ over_at to (spread 0 (take n (drop (to - n) d)) (mask_in (mask_form x) s at cells)) d
        → out ≡ over_at to (planes_below (mask_form x) (take n (drop (to - n) d)) left s at cells) d
    levels_last e eo = eo ∙ ap (λ (q : List ℕ). over_at to q d) (sym (below_last (mask_form x) (take n (drop (to - n) d)) s at cells e))

    -- z is the mask's length, `out` has the next plane, and `set` counts its mask
    module _ {z : ℕ} (ez : z ≡ (mask_form x).size cells) {out : List ℕ} (eo : out ≡ over_at to (spread 0 (take n (drop (to - n) d)) (mask_in (mask_form x) s at cells)) d)
        {set : ℕ} (set_is : set ≡ count_set (mask_in (mask_form x) s at cells)) where
      long : length (spread 0 (take n (drop (to - n) d)) (mask_in (mask_form x) s at cells)) ≡ n
      long = length-spread 0 (take n (drop (to - n) d)) (mask_in (mask_form x) s at cells) ∙ above_long

      next_plane : take n (drop (to + n - n) out) ≡ spread 0 (take n (drop (to - n) d)) (mask_in (mask_form x) s at cells)
      next_plane =
          let e : to + n - n ≡ to = omega arith in
          ap₂ (λ (k : ℕ) (o : List ℕ). take n (drop k o)) e eo
          ∙ plane_again d (spread 0 (take n (drop (to - n) d)) (mask_in (mask_form x) s at cells)) to (omega (arith, l.room)) long

      same : length out ≡ length d
      same = ap length eo ∙ over_at_length to (spread 0 (take n (drop (to - n) d)) (mask_in (mask_form x) s at cells)) d (omega (arith, long, levels_fits))

      pub levels_next : LevelsWithin x out n (to + n) (left - 1) s (at + 16 + z) set
      levels_next =
          let e : content_at (mask_form x) at cells ≡ at + 16 + z = omega arith in
          let lm : length (mask_in (mask_form x) s at cells) ≡ count_set (take n (drop (to - n) d)) = mask_long x levels_mask ∙ l.count in
          record {
            above = omega arith;
            room = omega (arith, same, levels_fits);
            count = set_is ∙ sym (ap count_set next_plane ∙ count-spread (take n (drop (to - n) d)) (mask_in (mask_form x) s at cells) lm);
            within = subst (λ (k : ℕ). MasksWithin (mask_form x) (left - 1) s k set) e
                (subst (MasksWithin (mask_form x) (left - 1) s (content_at (mask_form x) at cells)) (sym set_is) (within_next (mask_form x) left s at cells l.within f));
          }

      pub levels_done : {out' : List ℕ} → out' ≡ over_at (to + n) (planes_below (mask_form x) (take n (drop (to + n - n) out)) (left - 1) s (at + 16 + z) set) out
          → out' ≡ over_at to (planes_below (mask_form x) (take n (drop (to - n) d)) left s at cells) d
      levels_done e =
          let q : List ℕ = spread 0 (take n (drop (to - n) d)) (mask_in (mask_form x) s at cells) in
          let y : List ℕ = planes_below (mask_form x) q (left - 1) s (content_at (mask_form x) at cells) (count_set (mask_in (mask_form x) s at cells)) in
          let ea : at + 16 + z ≡ content_at (mask_form x) at cells = omega arith in
          let ey : planes_below (mask_form x) (take n (drop (to + n - n) out)) (left - 1) s (at + 16 + z) set ≡ y =
          ap₂ (λ (p : List ℕ) (k : ℕ). planes_below (mask_form x) p (left - 1) s k set) next_plane ea
          ∙ ap (planes_below (mask_form x) q (left - 1) s (content_at (mask_form x) at cells)) set_is in
          let lf : length (take to d ++ q) ≡ to + n = omega (arith, length-append (take to d) q, length-take-le to d (omega (arith, l.room)), long) in
          e ∙ ap₂ (over_at (to + n)) ey eo ∙ over_again (take to d ++ q) y d (to + n) lf ∙ ap (λ (l : List ℕ). over l d) (append_assoc (take to d) q y)
          ∙ ap (λ (l : List ℕ). over_at to l d) (sym (below_step (mask_form x) left (take n (drop (to - n) d)) s at cells f))
