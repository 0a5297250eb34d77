-- The loops that cut masks and fixed values: over the rows of a subset, over the levels. What holds at the head, and a turn.
-- Assumes nothing.
use mathlib.Core.Path.{◌≡◌, sym, ap, ◌∙◌}
use Prim.Native.Nat.{ℕ, zero, suc, ◌+◌, ◌-◌, ◌*◌, ◌≤◌, ◌<◌}
use native.Mathlib.Nat.{zero-mul, suc-mul, mul-one, add-mul, sub-zero, zero-add, mul-le-mul_right}
use native.Mathlib.Numerals.{add-one}
use native.Mathlib.Omega.{arith}
use mathlib.Core.List.{List, ◌++◌}
use lib.ListN.{length, take, drop, length-append}
use Rattle.array.specs.Lists.{joined, All}
use Rattle.array.specs.Shape.{volume}
use Rattle.array.specs.Buffers.{over, over_at}
use Rattle.array.specs.Places.{fixed_at, values_at, planes_at}
use Rattle.array.proofs.Laying.{Laying, laying_begins, laying_same, laying_ends, laying_part, laying_is}
use Rattle.array.proofs.Places.{fixed_rises, fixed_total, bytes_long}
use Rattle.subset.specs.Walk.{row_of, RowAt}
use Rattle.cut_ragged.proofs.Walk.{Copied, row_source, row_room, row_copied}

-- the next row of cells at equal steps
module _ (base k : ℕ) {sh ls cs : List ℕ} {cells at a n : ℕ} (q : RowAt sh ls cs cells at a n) (s : List ℕ) (l : base + volume sh * k ≤ length s) where
  fixed_between : n * k ≡ fixed_at base k (a + n) - fixed_at base k a
  fixed_between = omega (arith, add-mul a n k)

  pub fixed_source : base + a * k + n * k ≤ length s
  fixed_source = omega (arith, add-mul a n k, row_source q (fixed_rises base k (volume sh)) s l)

  module _ {d : List ℕ} {to : ℕ} {out : List ℕ} {m done : ℕ} (c : Copied (fixed_at base k) s cs d to out cells m at done) where
    pub fixed_room : to + done + n * k ≤ length out
    fixed_room = omega (arith, fixed_between, row_room q (fixed_rises base k (volume sh)) s l c)

    pub fixed_copied : {out' : List ℕ} → out' ≡ over_at (to + done) (take (n * k) (drop (base + a * k) s)) out
        → Copied (fixed_at base k) s cs d to out' cells (row_of ls) (at + n) (done + n * k)
    fixed_copied e = row_copied q (fixed_rises base k (volume sh)) s l c fixed_between e

-- ---- level by level: l of d planes are copied

pub record Planes (d n count : ℕ) (ps js old out : List ℕ) (l : ℕ) : Type 0 where
  pub within : l ≤ d
  pub laid : Laying (planes_at d 0 n ps js) old 0 out (l * count) (planes_at (d - l) l n ps js)

-- the bytes of cells at equal steps
pub fixed_long : (base k v : ℕ) (s js : List ℕ) → base + v * k ≤ length s → All (λ j. j < v) js → length (joined (values_at (fixed_at base k) s js)) ≡ length js * k
fixed_long base k v s js h p = bytes_long (fixed_rises base k v) s h js p ∙ fixed_total base k js

module _ (n : ℕ) {count : ℕ} (ps js : List ℕ) (p : All (λ j. j < n) js) (m : length js ≡ count) where
  -- a plane of the array lies in its planes
  pub plane_source : (d l : ℕ) → length ps ≡ d * n → l < d → l * n + n * 1 ≤ length ps
  plane_source d l e h = omega (arith, suc-mul l n, mul-one n, mul-le-mul_right {m = suc l} {n = d} n h)

  plane_long : (d l : ℕ) → length ps ≡ d * n → l < d → length (joined (values_at (fixed_at (l * n) 1) ps js)) ≡ count
  plane_long d l e h = fixed_long (l * n) 1 n ps js (plane_source d l e h) p ∙ mul-one (length js) ∙ m

  planes_long_from : (d k l : ℕ) → length ps ≡ d * n → l + k ≤ d → length (planes_at k l n ps js) ≡ k * count
  planes_long_from d zero l e h = sym (zero-mul count)
  planes_long_from d (suc k) l e h =
      omega (
        arith,
        length-append (joined (values_at (fixed_at (l * n) 1) ps js)) (planes_at k (suc l) n ps js),
        plane_long d l e (omega arith),
        planes_long_from d k (suc l) e (omega arith),
        suc-mul k count,
      )

  pub planes_long : (d : ℕ) → length ps ≡ d * n → length (planes_at d 0 n ps js) ≡ d * count
  planes_long d e = planes_long_from d d 0 e (omega arith)

  pub planes_begin : (d : ℕ) (old : List ℕ) → length ps ≡ d * n → d * count ≤ length old → Planes d n count ps js old old 0
  planes_begin d old e h = record {
    within = omega arith;
    laid =
        let i : Laying (planes_at d 0 n ps js) old 0 old 0 (planes_at d 0 n ps js) = laying_begins (planes_at d 0 n ps js) old 0 (omega (arith, planes_long d e)) in
        let z : 0 ≡ 0 * count = sym (zero-mul count) in
        laying_is (record {
          room = i.room;
          within = omega (arith, z);
          here = i.here ∙ ap (λ (k : ℕ). over (take k (planes_at d 0 n ps js)) old) z;
          left = ap (λ (k : ℕ). drop k (planes_at d 0 n ps js)) (sym z);
        })
        (ap (λ (k : ℕ). planes_at k 0 n ps js) (sym (sub-zero d)));
  }

  module _ {d : ℕ} {old out : List ℕ} {l : ℕ} (e : length ps ≡ d * n) (c : Planes d n count ps js old out l) where
    pub planes_same : length out ≡ length old
    planes_same = laying_same (planes_at d 0 n ps js) old 0 out (l * count) (planes_at (d - l) l n ps js) c.laid

    pub planes_end : d ≤ l → out ≡ over (planes_at d 0 n ps js) old
    planes_end h =
        let z : d - l ≡ 0 = omega arith in
        laying_ends (planes_at d 0 n ps js) old 0 out (l * count) (laying_is c.laid (ap (λ (k : ℕ). planes_at k l n ps js) z))

    module _ (h : l < d) where
      pub plane_room : l * count + count * 1 ≤ length out
      plane_room =
          omega (arith, planes_same, c.laid.room, planes_long d e, suc-mul l count, mul-one count, mul-le-mul_right {m = suc l} {n = d} count h)

      pub planes_more : {out' : List ℕ} → out' ≡ over_at (l * count) (joined (values_at (fixed_at (l * n) 1) ps js)) out → Planes d n count ps js old out' (l + 1)
      planes_more {out'} r =
          let z : d - l ≡ suc (d - (l + 1)) = omega arith in
          record {
            within = omega arith;
            laid = laying_part (planes_at d 0 n ps js) old 0 out (l * count) (joined (values_at (fixed_at (l * n) 1) ps js)) (planes_at (d - (l + 1)) (l + 1) n ps js)
                (laying_is c.laid (ap (λ (k : ℕ). planes_at k l n ps js) z ∙ ap (λ (k : ℕ). joined (values_at (fixed_at (l * n) 1) ps js) ++ planes_at (d - (l + 1)) k n ps js) (sym (add-one l))))
                out' (r ∙ ap (λ (k : ℕ). over_at k (joined (values_at (fixed_at (l * n) 1) ps js)) out) (sym (zero-add (l * count))))
                ((l + 1) * count) (ap (λ (k : ℕ). k * count) (add-one l) ∙ suc-mul l count ∙ ap (λ (k : ℕ). l * count + k) (sym (plane_long d l e h)));
          }
