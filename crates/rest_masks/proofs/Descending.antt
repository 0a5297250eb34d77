-- The mask planes of the rest form, each by the one above it.
-- Assumes nothing.
use mathlib.Core.Path.{◌≡◌, refl, sym, ap, ap₂, ◌∙◌, subst}
use mathlib.Core.Bool.{Bool, true, false, ◌&&◌}
use mathlib.Core.List.{List, ◌++◌, map}
use Prim.Native.Nat.{ℕ, zero, suc, ◌+◌, ◌-◌, ◌*◌, ◌≤◌, ◌<◌}
use native.Mathlib.Nat.{zero-add, zero-mul, suc-mul, sub-zero, mul-le-mul_right}
use native.Mathlib.Numerals.{add-one}
use native.Mathlib.Omega.{arith}
use lib.ListN.{length, take, drop, get_or, length-append, get_or-append}
use lib.Seq.{get_or-take, get_or-drop, get_or-append-add, length-take-le}
use Rattle.array.specs.Lists.{from, pick}
use Rattle.array.specs.Buffers.{over_at}
use Rattle.array.specs.Cells.{set_test}
use Rattle.array.specs.Places.{mask_at, planes_by, shown_at}
use Rattle.array.proofs.Lists.{map-from, entry, by_number}
use Rattle.array.proofs.Laying.{Laying, laying_begins, laying_same, laying_part, laying_ends, laying_is}
use Rattle.rest_masks.specs.Rested.{rest_mask, kept_at, under}
use Rattle.rest_masks.proofs.Numbering.{length_numbered, laid_at}

pub length_planes : (m : ℕ → ℕ → ℕ) (n d l : ℕ) → length (planes_by m d l (from 0 n)) ≡ d * n
length_planes m n zero l = sym (zero-mul n)
length_planes m n (suc d) l =
    omega (
      arith,
      length-append (map (m l) (from 0 n)) (planes_by m d (suc l) (from 0 n)),
      length_numbered (m l) n,
      length_planes m n d (suc l),
      suc-mul d n,
    )

-- a byte that stays where the one above it is set in the rest form, stays where it is shown
below : (b : Bool) (x y : ℕ) → pick (set_test (pick b x 0)) y 0 ≡ pick (b && set_test x) y 0
below true x y = refl
below false x y = refl

-- ---- planes under another outermost one

module _ (n : ℕ) (top ms : List ℕ) (long : n ≤ length top) where
  pub outermost_under : take n top ≡ map (rest_mask n (under n top ms) 0) (from 0 n)
  outermost_under =
      by_number 0 (rest_mask n (under n top ms) 0) (take n top) (length-take-le n top long)
      (λ j h.
      let first : 0 * n + j ≡ j = omega (arith, zero-mul n) in
      sym (ap (λ (i : ℕ). get_or (under n top ms) i 0) first ∙ get_or-append (take n top) (drop n ms) 0 j (omega (arith, length-take-le n top long))))

  pub behind_under : (i : ℕ) → get_or (under n top ms) (n + i) 0 ≡ get_or ms (n + i) 0
  behind_under i =
      ap (λ (m : ℕ). get_or (under n top ms) (m + i) 0) (sym (length-take-le n top long)) ∙ get_or-append-add (take n top) (drop n ms) i 0 ∙ get_or-drop n ms i 0

-- the planes down to level l lie in the output, that of level l at `at`
pub record Descending (n : ℕ) (ms : List ℕ) (left : ℕ) (d out : List ℕ) (l at : ℕ) : Type 0 where
  pub within : l ≤ left
  pub place : at ≡ l * n
  pub above : (j : ℕ) → j < n → get_or out (at + j) 0 ≡ rest_mask n (under n d ms) l j
  pub laid : Laying (planes_by (rest_mask n (under n d ms)) left 1 (from 0 n)) d n out at (planes_by (rest_mask n (under n d ms)) (left - l) (suc l) (from 0 n))

pub descending_begins : {n : ℕ} {ms : List ℕ} {left : ℕ} {d : List ℕ} → suc left * n ≤ length d → Descending n ms left d d 0 0
descending_begins {n} {ms} {left} {d} h =
    let m : ℕ → ℕ → ℕ = rest_mask n (under n d ms) in
    record {
      within = omega arith;
      place = sym (zero-mul n);
      above = λ j l.
          ap (λ (k : ℕ). get_or d k 0) (zero-add j) ∙ sym (get_or-take n d j 0 l) ∙ entry (m 0) n (outermost_under n d ms (omega (arith, suc-mul left n))) 0 j l;
      laid = laying_is (laying_begins (planes_by m left 1 (from 0 n)) d n (omega (arith, length_planes m n left 1, suc-mul left n)))
          (ap (λ (k : ℕ). planes_by m k 1 (from 0 n)) (sym (sub-zero left)));
    }

-- the place by its level
pub descending_at : {n : ℕ} {ms : List ℕ} {left : ℕ} {d out : List ℕ} {l at : ℕ} → Descending n ms left d out l at → Descending n ms left d out l (l * n)
descending_at {n} {ms} {left} {d} {out} {l} c = subst (Descending n ms left d out l) c.place c

module _ {n : ℕ} {ms : List ℕ} {left : ℕ} {d out : List ℕ} {l at : ℕ} (c : Descending n ms left d out l at) where
  abbrev m : ℕ → ℕ → ℕ
  m = rest_mask n (under n d ms)

  abbrev wanted : List ℕ
  wanted = planes_by m left 1 (from 0 n)

  pub descending_same : length out ≡ length d
  descending_same = laying_same wanted d n out at _ c.laid

  pub descending_ends : left ≤ l → out ≡ over_at n wanted d
  descending_ends h =
      let none : left - l ≡ 0 = omega arith in
      laying_ends wanted d n out at (laying_is c.laid (ap (λ (k : ℕ). planes_by m k (suc l) (from 0 n)) none))

  module _ (h : l < left) where
    -- the plane behind this one lies within any planes that are long enough
    pub descending_room : {m : ℕ} → suc left * n ≤ m → at + n + n ≤ m
    descending_room p = omega (arith, c.place, suc-mul l n, suc-mul (suc l) n, mul-le-mul_right {m = suc (suc l)} {n = suc left} n (omega arith))

    -- it is that of the next level
    next_plane : suc left * n ≤ length d → map (kept_at n out ms at) (from 0 n) ≡ map (m (suc l)) (from 0 n)
    next_plane room =
        let ms' : List ℕ = under n d ms in
        map-from (kept_at n out ms at) (m (suc l)) 0 n
        (λ j q.
        let here : at + n + j ≡ n + (l * n + j) = omega (arith, c.place) in
        let there : suc l * n + j ≡ n + (l * n + j) = omega (arith, suc-mul l n) in
        let same : get_or ms (at + n + j) 0 ≡ mask_at n ms' (suc l) j =
        ap (λ (i : ℕ). get_or ms i 0) here ∙ sym (behind_under n d ms (omega (arith, room, suc-mul left n)) (l * n + j)) ∙ ap (λ (i : ℕ). get_or ms' i 0) (sym there) in
        ap₂ (λ (x y : ℕ). pick (set_test x) y 0) (c.above j (omega arith)) same
        ∙ below (shown_at n ms' l j) (mask_at n ms' l j) (mask_at n ms' (suc l) j))

    planes_left : planes_by m (left - l) (suc l) (from 0 n)
        ≡ map (m (suc l)) (from 0 n) ++ planes_by m (left - (l + 1)) (suc (l + 1)) (from 0 n)
    planes_left =
        let e : left - l ≡ suc (left - suc l) = omega arith in
        ap (λ (k : ℕ). planes_by m k (suc l) (from 0 n)) e
        ∙ ap (λ (k : ℕ). map (m (suc l)) (from 0 n) ++ planes_by m (left - k) (suc k) (from 0 n)) (sym (add-one l))

    pub descending_more : {out' : List ℕ} → suc left * n ≤ length d → out' ≡ over_at (at + n) (map (kept_at n out ms at) (from 0 n)) out
        → Descending n ms left d out' (l + 1) (at + n)
    descending_more {out'} room e =
        let g : List ℕ = map (m (suc l)) (from 0 n) in
        let long : length g ≡ n = length_numbered (m (suc l)) n in
        let e' : out' ≡ over_at (at + n) g out = e ∙ ap (λ (w : List ℕ). over_at (at + n) w out) (next_plane room) in
        record {
          within = omega arith;
          place = omega (arith, c.place, suc-mul l n, ap (λ (k : ℕ). k * n) (add-one l));
          above = λ j q.
              ap (λ (o : List ℕ). get_or o (at + n + j) 0) e'
              ∙ laid_at (at + n) g out (omega (arith, descending_room room, descending_same)) j (omega arith)
              ∙ entry (m (suc l)) n refl 0 j q ∙ ap (λ (k : ℕ). m k j) (sym (add-one l));
          laid = laying_part wanted d n out at g _ (laying_is c.laid planes_left) out'
              (let q : at + n ≡ n + at = omega arith in e' ∙ ap (λ (k : ℕ). over_at k g out) q) (at + n) (omega arith);
        }
