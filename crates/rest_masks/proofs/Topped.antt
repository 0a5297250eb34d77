-- All planes of the rest form: the outermost lies over the output, and those below it are laid behind it, each behind what stands already.
-- Assumes nothing.
use mathlib.Core.Path.{◌≡◌, sym, ap, ap₂, ◌∙◌}
use mathlib.Core.List.{List, ◌++◌, append_assoc, map}
use Prim.Native.Nat.{ℕ, suc, ◌+◌, ◌-◌, ◌*◌, ◌≤◌, ◌<◌}
use native.Mathlib.Nat.{one-mul, mul-le-mul_right}
use native.Mathlib.Omega.{arith}
use Rattle.std.specs.Borrow.{Bor}
use Rattle.std.specs.Prelude.{Option, None, Some}
use lib.ListN.{length, take, drop, get_or, length-append, length-drop, take-append-drop}
use lib.Seq.{take_at, length-take-le, get_or-take, get_or-drop, drop-drop}
use Rattle.array.specs.Cells.{set_test}
use Rattle.array.specs.Lists.{from, pick}
use Rattle.array.specs.Buffers.{over, over_at}
use Rattle.array.specs.Places.{planes_by}
use Rattle.array.proofs.Lists.{map-from}
use Rattle.array.proofs.Over.{over_again, over-length}
use Rattle.rest_masks.specs.Rested.{rest_mask, rest_planes, kept_at, kept_by, under, covered}
use Rattle.rest_masks.proofs.Numbering.{length_numbered}
use Rattle.rest_masks.proofs.Descending.{outermost_under}

-- ---- a plane behind those that stand

behind : (k : ℕ) (g d : List ℕ) → k ≤ length d → take k d ++ over g (drop k d) ≡ over_at k g d
behind k g d h =
    let long : length (take k d ++ g) ≡ k + length g = omega (arith, length-append (take k d) g, length-take-le k d h) in
    sym (append_assoc (take k d) g (drop (length g) (drop k d))) ∙ ap (λ (r : List ℕ). (take k d ++ g) ++ r) (drop-drop (length g) k d ∙ ap (λ (j : ℕ). drop j d) (sym long))

module _ (n at : ℕ) (ms out : List ℕ) (h : at + n ≤ length out) where
  -- what is cut of the planes that stand, and of the masks
  abbrev above : List ℕ → List ℕ
  above front = take (at + n - at) (drop at front)

  abbrev here : List ℕ
  here = take (at + n + n - (at + n)) (drop (at + n) ms)

  above_at : (j : ℕ) → j < n → get_or (above (take (at + n) out)) j 0 ≡ get_or out (at + j) 0
  above_at j q =
      get_or-take (at + n - at) (drop at (take (at + n) out)) j 0 (omega arith) ∙ get_or-drop at (take (at + n) out) j 0 ∙ get_or-take (at + n) out (at + j) 0 (omega arith)

  here_at : (j : ℕ) → j < n → get_or here j 0 ≡ get_or ms (at + n + j) 0
  here_at j q = get_or-take (at + n + n - (at + n)) (drop (at + n) ms) j 0 (omega arith) ∙ get_or-drop (at + n) ms j 0

  pub plane_behind : {front back back' : List ℕ} → front ≡ take (at + n) out → back ≡ drop (at + n) out
      → back' ≡ over (map (kept_by (above front) here) (from 0 (length (above front)))) back
      → front ++ back' ≡ over_at (at + n) (map (kept_at n out ms at) (from 0 n)) out
  plane_behind ef eb e =
      let stands : List ℕ = take (at + n) out in
      let width : at + n - at ≡ n = omega arith in
      let long : length (above stands) ≡ n = ap (λ (k : ℕ). length (take k (drop at stands))) width
      ∙ length-take-le n (drop at stands) (omega (arith, length-drop at stands, length-take-le (at + n) out h)) in
      let same : map (kept_by (above stands) here) (from 0 (length (above stands))) ≡ map (kept_at n out ms at) (from 0 n) =
      ap (λ (m : ℕ). map (kept_by (above stands) here) (from 0 m)) long
      ∙ map-from (kept_by (above stands) here) (kept_at n out ms at) 0 n
      (λ j q. ap₂ (λ (x y : ℕ). pick (set_test x) y 0) (above_at j (omega arith)) (here_at j (omega arith))) in
      ap₂ (λ (x y : List ℕ). x ++ y) ef (e ∙ ap₂ (λ (f b : List ℕ). over (map (kept_by (above f) here) (from 0 (length (above f)))) b) ef eb)
      ∙ behind (at + n) _ out h ∙ ap (λ (g : List ℕ). over_at (at + n) g out) same

-- ---- the outermost plane, where another one may lie above

pub below_plane : (n : ℕ) (plane : Bor (List ℕ)) (ms : List ℕ) → length plane.now ≡ n
    → map (kept_by plane.now ms) (from 0 (length plane.now)) ≡ take n (covered n (Some plane) ms)
below_plane n plane ms e =
    ap (λ (m : ℕ). map (kept_by plane.now ms) (from 0 m)) e ∙ sym (take_at (map (kept_by plane.now ms) (from 0 n)) (drop n ms) n (length_numbered (kept_by plane.now ms) n))

pub covered_long : (n : ℕ) (above : Option (Bor (List ℕ))) (ms : List ℕ) → n ≤ length ms → length (take n (covered n above ms)) ≡ n
covered_long n None ms h = length-take-le n ms h
covered_long n (Some plane) ms h =
    let long : length (map (kept_by plane.now ms) (from 0 n)) ≡ n = length_numbered (kept_by plane.now ms) n in
    ap length (take_at (map (kept_by plane.now ms) (from 0 n)) (drop n ms) n long) ∙ long

pub covered_whole : (n : ℕ) (above : Option (Bor (List ℕ))) (ms : List ℕ) → take n (covered n above ms) ++ drop n ms ≡ covered n above ms
covered_whole n None ms = take-append-drop n ms
covered_whole n (Some plane) ms =
    ap (λ (l : List ℕ). l ++ drop n ms) (take_at (map (kept_by plane.now ms) (from 0 n)) (drop n ms) n (length_numbered (kept_by plane.now ms) n))

-- ---- all planes

pub one_level : (n : ℕ) {depth : ℕ} → (depth ≡ 0 → ⊥) → {m : ℕ} → depth * n ≤ m → n ≤ m
one_level n {depth} some h = omega (arith, mul-le-mul_right {m = 1} {n = depth} n (omega arith), one-mul n)

module _ {n : ℕ} (top ms out : List ℕ) {depth : ℕ} (some : depth ≡ 0 → ⊥) (counted : length top ≡ n) (room : depth * n ≤ length out) {out₁ : List ℕ} (e : out₁ ≡ over top out) where
  same_length : length out₁ ≡ length out
  same_length = ap length e ∙ over-length top out (omega (arith, one_level n some room))

  on_top : take n out₁ ≡ top
  on_top = ap (take n) e ∙ take_at top (drop (length top) out) n counted

  under_top : under n out₁ ms ≡ top ++ drop n ms
  under_top = ap (λ (t : List ℕ). t ++ drop n ms) on_top

  pub planes_laid : {out₂ : List ℕ} → out₂ ≡ over_at n (planes_by (rest_mask n (under n out₁ ms)) (depth - 1) 1 (from 0 n)) out₁
      → out₂ ≡ over (rest_planes n (top ++ drop n ms) depth) out
  planes_laid f =
      let g : List ℕ = planes_by (rest_mask n (under n out₁ ms)) (depth - 1) 1 (from 0 n) in
      let outermost : top ≡ map (rest_mask n (under n out₁ ms) 0) (from 0 n) =
      sym on_top ∙ outermost_under n out₁ ms (omega (arith, same_length, one_level n some room)) in
      let q : suc (depth - 1) ≡ depth = omega arith in
      f ∙ ap (over_at n g) e ∙ over_again top g out n counted
      ∙ ap (λ (t : List ℕ). over (t ++ g) out) outermost
      ∙ ap (λ (k : ℕ). over (rest_planes n (under n out₁ ms) k) out) q
      ∙ ap (λ (ms' : List ℕ). over (rest_planes n ms' depth) out) under_top
