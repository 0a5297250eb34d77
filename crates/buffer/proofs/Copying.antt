-- A loop that copies: what is left to write, turn by turn.
-- Assumes nothing.
use mathlib.Core.Path.{◌≡◌, sym, ap, ap₂, ◌∙◌}
use mathlib.Core.List.{List, ◌∷◌}
use Prim.Native.Nat.{ℕ, suc, ◌+◌, ◌-◌, ◌≤◌, ◌<◌}
use native.Mathlib.Omega.{arith}
use native.Mathlib.Nat.{sub-zero, add-zero}
use lib.ListN.{length, take, drop, get_or, set, length-drop}
use lib.Seq.{drop-cons, take_at, length-take-le}
use Rattle.array.specs.Buffers.{over_at}
use Rattle.array.proofs.Laying.{Laying, laying_begins, laying_same, laying_ends, laying_store, laying_is, laying_room}

-- ---- i of k elements of s from `at` on are copied to `to` in what was d

pub record Copying (d : List ℕ) (to : ℕ) (s : List ℕ) (at k : ℕ) (out : List ℕ) (i : ℕ) : Type 0 where
  pub source : at + k ≤ length s
  pub within : i ≤ k
  pub laid : Laying (take k (drop at s)) d to out i (take (k - i) (drop (at + i) s))

copy_next : (s : List ℕ) (at k i : ℕ) → at + k ≤ length s → i < k → take (k - i) (drop (at + i) s) ≡ get_or s (at + i) 0 ∷ take (k - (i + 1)) (drop (at + (i + 1)) s)
copy_next s at k i h l =
    let e : k - i ≡ suc (k - (i + 1)) = omega arith in
    let e' : suc (at + i) ≡ at + (i + 1) = omega arith in
    ap₂ take e (drop-cons s (at + i) 0 (omega arith)) ∙ ap (λ (j : ℕ). get_or s (at + i) 0 ∷ take (k - (i + 1)) (drop j s)) e'

pub copy_begins : {d : List ℕ} {to : ℕ} {s : List ℕ} {at k : ℕ} → to + k ≤ length d → at + k ≤ length s → Copying d to s at k d 0
copy_begins {d} {to} {s} {at} {k} h l = record {
  source = l;
  within = omega arith;
  laid =
      laying_is
      (laying_begins (take k (drop at s)) d to (omega (arith, length-take-le k (drop at s) (omega (arith, length-drop at s)))))
      (ap₂ (λ (i j : ℕ). take i (drop j s)) (sym (sub-zero k)) (sym (add-zero at)));
}

module _ {d : List ℕ} {to : ℕ} {s : List ℕ} {at k : ℕ} {out : List ℕ} {i : ℕ} (c : Copying d to s at k out i) where
  pub copy_same : length out ≡ length d
  copy_same = laying_same (take k (drop at s)) d to out i _ c.laid

  pub copy_ends : k ≤ i → out ≡ over_at to (take k (drop at s)) d
  copy_ends h =
      let e : k - i ≡ 0 = omega arith in
      laying_ends (take k (drop at s)) d to out i (laying_is c.laid (ap (λ (j : ℕ). take j (drop (at + i) s)) e))

  pub copy_room : i < k → to + i < length out
  copy_room h = laying_room (take k (drop at s)) d to out i _ _ (laying_is c.laid (copy_next s at k i c.source h))

  pub copy_more : i < k → Copying d to s at k (set out (to + i) (get_or s (at + i) 0)) (i + 1)
  copy_more h = record {
    source = c.source;
    within = omega arith;
    laid = laying_store (take k (drop at s)) d to out i _ _ (laying_is c.laid (copy_next s at k i c.source h));
  }

-- ---- what goes to an array and from there on is what goes straight

module _ (to : ℕ) (s : List ℕ) (at k : ℕ) (d : List ℕ) where
  pub through : (b : List ℕ) {between out : List ℕ} → at + k ≤ length s → between ≡ over_at 0 (take k (drop at s)) b → out ≡ over_at to (take k (drop 0 between)) d
      → out ≡ over_at to (take k (drop at s)) d
  through b h first second =
      let g = take k (drop at s) in
      second ∙ ap (λ (w : List ℕ). over_at to w d) (ap (take k) first ∙ take_at g (drop (length g) b) k (length-take-le k (drop at s) (omega (arith, length-drop at s))))
