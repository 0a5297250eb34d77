-- The planes of all levels, and the innermost of them.
-- Assumes nothing.
use mathlib.Core.Path.{◌≡◌, refl, sym, ap, ap₂, ◌∙◌, subst}
use mathlib.Core.Logic.{◌≢◌}
use mathlib.Core.List.{List, [], ◌∷◌, ◌++◌, append-nil}
use Prim.Native.Nat.{ℕ, zero, suc, ◌+◌, ◌-◌, ◌*◌, ◌≤◌}
use native.Mathlib.Omega.{arith}
use native.Mathlib.Nat.{suc-mul, zero-mul}
use native.Mathlib.Numerals.{sub-one}
use lib.ListN.{length, take, drop, length-append, length-drop}
use lib.Seq.{length-take-le, take_at, drop-append-add, drop-append-le, take-append-le}
use Rattle.array.specs.Kind.{Masks}
use Rattle.array.specs.Cells.{Value}
use Rattle.array.specs.Content.{masks_of, leaves}
use Rattle.array.specs.Buffers.{over, over_at}
use Rattle.array.proofs.Over.{over_again, over-length}
use Rattle.codec.specs.Mask.{MaskForm, mask_form}
use Rattle.codec.specs.Frame.{count_set}
use Rattle.codec.specs.Spread.{spread, innermost_plane}
use Rattle.codec.proofs.SpreadLaws.{length-spread}
use Rattle.codec.specs.MaskAt.{said_mask}
use Rattle.stored_frames.specs.Stored.{mask_in, content_at, stored_masks, cells_from, planes_below, MaskPassed, MasksWithin, innermost_count}
use Rattle.stored_frames.proofs.Reading.{masks_from, leaves-from}
use Rattle.stored_frames.proofs.Walks.{mask_long}
use Rattle.decode_planes.specs.Within.{planes_in, innermost_in, LevelsWithin, PlanesWithin}
use Rattle.decode_planes.proofs.Levels.{times_first, below_length, within_now, within_next}

-- ---- the first plane, and the others behind it

module _ {x : Masks} {d : List ℕ} {n depth : ℕ} {s : List ℕ} (p : PlanesWithin x d n depth s) where
  deep : depth ≢ 0
  deep e = absurd (omega (arith, p.deep))

  pub first_mask : MaskPassed (mask_form x) s 0 n
  first_mask = within_now (mask_form x) depth s 0 n p.within deep (λ e. absurd (omega (arith, p.some)))

  pub first_fits : n + (depth - 1) * n ≤ length d
  first_fits = omega (arith, p.room, times_first depth n deep)

  long : length (mask_in (mask_form x) s 0 n) ≡ n
  long = mask_long x first_mask

  -- one level is the first plane
  pub planes_one : depth ≡ 1 → {out : List ℕ} → out ≡ over_at 0 (said_mask (mask_form x) s 16 n) d → out ≡ over (planes_in (mask_form x) s n (depth - 1)) d
  unfolding planes_below stored_masks
  planes_one e eo =
      let none : depth - 1 ≡ 0 = omega arith in
      let m : List ℕ = mask_in (mask_form x) s 0 n in
      eo ∙ ap (λ (q : List ℕ). over q d) (sym (ap (planes_in (mask_form x) s n) none ∙ append-nil m))

  -- z is the mask's length, `out` has the first plane, and `set` counts it
  module _ {z : ℕ} (ez : z ≡ (mask_form x).size n) {out : List ℕ} (eo : out ≡ over_at 0 (said_mask (mask_form x) s 16 n) d)
      {set : ℕ} (set_is : set ≡ count_set (said_mask (mask_form x) s 16 n)) where
    out_is : out ≡ over (mask_in (mask_form x) s 0 n) d
    out_is = eo

    again : take n (drop (n - n) out) ≡ mask_in (mask_form x) s 0 n
    again =
        let e : n - n ≡ 0 = omega arith in
        ap₂ (λ (k : ℕ) (o : List ℕ). take n (drop k o)) e out_is ∙ take_at (mask_in (mask_form x) s 0 n) (drop (length (mask_in (mask_form x) s 0 n)) d) n long

    pub first_next : LevelsWithin x out n n (depth - 1) s (16 + z) set
    first_next =
        let e : content_at (mask_form x) 0 n ≡ 16 + z = omega arith in
        record {
          above = omega arith;
          room = omega (arith, ap length out_is ∙ over-length (mask_in (mask_form x) s 0 n) d (omega (arith, long, first_fits)), first_fits);
          count = set_is ∙ ap count_set (sym again);
          within = subst (λ (k : ℕ). MasksWithin (mask_form x) (depth - 1) s k set) e
              (subst (MasksWithin (mask_form x) (depth - 1) s (content_at (mask_form x) 0 n)) (sym set_is) (within_next (mask_form x) depth s 0 n p.within deep));
        }

    pub planes_done : {out' : List ℕ} → out' ≡ over_at n (planes_below (mask_form x) (take n (drop (n - n) out)) (depth - 1) s (16 + z) set) out
        → out' ≡ over (planes_in (mask_form x) s n (depth - 1)) d
    planes_done e =
        let m : List ℕ = mask_in (mask_form x) s 0 n in
        let q : 16 + z ≡ content_at (mask_form x) 0 n = omega arith in
        e
        ∙ ap₂ (over_at n)
        (ap₂ (λ (p : List ℕ) (k : ℕ). planes_below (mask_form x) p (depth - 1) s k set) again q ∙ ap (planes_below (mask_form x) m (depth - 1) s (content_at (mask_form x) 0 n)) set_is)
        out_is
        ∙ over_again m (planes_below (mask_form x) m (depth - 1) s (content_at (mask_form x) 0 n) (count_set m)) d n long

-- ---- the last of the planes is the innermost

last_of : (mf : MaskForm) (d : ℕ) (m s : List ℕ) (at k : ℕ)
    → take (length m) (drop (d * length m) (m ++ planes_below mf m d s at k)) ≡ innermost_plane m (stored_masks mf d s at k)
unfolding planes_below stored_masks
last_of mf zero m s at k = ap (λ (j : ℕ). take (length m) (drop j (m ++ []))) (zero-mul (length m)) ∙ take_at m [] (length m) refl
last_of mf (suc d) m s at k =
    let q : List ℕ = spread 0 m (mask_in mf s at k) in
    let y : List ℕ = planes_below mf q d s (content_at mf at k) (count_set (mask_in mf s at k)) in
    let lq : length q ≡ length m = length-spread 0 m (mask_in mf s at k) in
    let e : suc d * length m ≡ length m + d * length m = omega (arith, suc-mul d (length m)) in
    ap (λ (j : ℕ). take (length m) (drop j (m ++ (q ++ y)))) e
    ∙ ap (take (length m)) (drop-append-add m (q ++ y) (d * length m))
    ∙ ap (λ (j : ℕ). take j (drop (d * j) (q ++ y))) (sym lq)
    ∙ last_of mf d q s (content_at mf at k) (count_set (mask_in mf s at k))

-- ---- the masks and the values of what is read, by the depth; z is the value of a null cell

module _ (mf : MaskForm) (z : Value) (s : List ℕ) (n : ℕ) where
  pub masks_are : (d : ℕ) (vs : List Value) → d ≢ 0 → masks_of d (cells_from mf z d s 0 n vs) ≡ planes_in mf s n (d - 1)
  unfolding planes_below
  masks_are zero vs f = absurd (f refl)
  masks_are (suc d) vs f = masks_from mf z d s 0 n vs ∙ ap (planes_in mf s n) (sym (sub-one (suc d)))

  pub leaves_are : (d : ℕ) (vs : List Value) → d ≢ 0 → leaves d (cells_from mf z d s 0 n vs) ≡ spread z (innermost_in mf s n (d - 1)) vs
  leaves_are zero vs f = absurd (f refl)
  leaves_are (suc d) vs f = leaves-from mf z d s 0 n vs ∙ ap (λ (e : ℕ). spread z (innermost_in mf s n e) vs) (sym (sub-one (suc d)))

  pub leaves-flat : (vs : List Value) → leaves zero (cells_from mf z zero s 0 n vs) ≡ vs
  unfolding cells_from
  leaves-flat [] = refl
  leaves-flat (v ∷ vs) = ap (λ (r : List Value). v ∷ r) (leaves-flat vs)

pub count_are : (mf : MaskForm) (s : List ℕ) (n d : ℕ) → d ≢ 0 → innermost_count mf d s n ≡ count_set (innermost_in mf s n (d - 1))
unfolding innermost_count
count_are mf s n zero f = absurd (f refl)
count_are mf s n (suc d) f = ap (λ (e : ℕ). count_set (innermost_in mf s n e)) (sym (sub-one (suc d)))

-- ---- where the planes lie

module _ (x : Masks) (s : List ℕ) (n d : ℕ) (h1 : 1 ≤ n) (h4 : MasksWithin (mask_form x) d s 0 n) (f : d ≢ 0) where
  top_long : length (mask_in (mask_form x) s 0 n) ≡ n
  top_long = mask_long x (within_now (mask_form x) d s 0 n h4 f (λ e. absurd (omega arith)))

  pub planes_long : length (planes_in (mask_form x) s n (d - 1)) ≡ d * n
  planes_long =
      let m : List ℕ = mask_in (mask_form x) s 0 n in
      length-append m _
      ∙ ap₂ (λ (a b : ℕ). a + b) top_long (below_length (mask_form x) (d - 1) m s (content_at (mask_form x) 0 n) (count_set m) ∙ ap (λ (j : ℕ). (d - 1) * j) top_long) ∙ back
    where
      back : n + (d - 1) * n ≡ d * n
      back = omega (arith, times_first d n f)

  -- the innermost plane, read where it was laid
  pub innermost_read : (m : List ℕ) {m' : List ℕ} → m' ≡ over (planes_in (mask_form x) s n (d - 1)) m → take n (drop (d * n - n) m') ≡ innermost_in (mask_form x) s n (d - 1)
  innermost_read m e =
      let p : List ℕ = planes_in (mask_form x) s n (d - 1) in
      let j : d * n - n ≡ (d - 1) * n = omega (arith, times_first d n f) in
      let lp : length p ≡ d * n = planes_long in
      let i1 : (d - 1) * n ≤ length p = omega (arith, times_first d n f) in
      let i2 : n ≤ length (drop ((d - 1) * n) p) = omega (arith, times_first d n f, length-drop ((d - 1) * n) p) in
      ap₂ (λ (k : ℕ) (l : List ℕ). take n (drop k l)) j e
      ∙ ap (take n) (drop-append-le ((d - 1) * n) p (drop (length p) m) i1)
      ∙ take-append-le n (drop ((d - 1) * n) p) (drop (length p) m) i2
      ∙ ap (λ (k : ℕ). take k (drop ((d - 1) * k) p)) (sym top_long)
      ∙ last_of (mask_form x) (d - 1) (mask_in (mask_form x) s 0 n) s (content_at (mask_form x) 0 n) (count_set (mask_in (mask_form x) s 0 n))

  pub innermost_long : length (innermost_in (mask_form x) s n (d - 1)) ≡ n
  innermost_long =
      sym (ap length (innermost_read [] {m' = over p []} refl))
      ∙ length-take-le n (drop (d * n - n) (over p [])) (omega (arith, length-drop (d * n - n) (over p []), length-append p (drop (length p) []), planes_long, times_first d n f))
    where
      p : List ℕ
      p = planes_in (mask_form x) s n (d - 1)
