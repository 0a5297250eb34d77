-- A loop that writes each part with some of what lies behind it, which the later parts write over: what stands for good, and what is left to write.
-- Assumes nothing.
use mathlib.Core.Path.{◌≡◌, refl, sym, ap, ap₂, ◌∙◌, subst}
use mathlib.Core.List.{List, [], ◌++◌, append_assoc}
use Prim.Native.Nat.{ℕ, ◌+◌, ◌-◌, ◌≤◌}
use native.Mathlib.Omega.{arith}
use native.Mathlib.Nat.{min-le_left, min-le_right}
use lib.ListN.{length, take, drop, length-append, length-drop, length-take, take-append-drop}
use lib.Seq.{drop-drop, take_all, take-add, take-take, take_at, drop_at, length-take-le, take-append-le, take-append-add, drop-append-add}
use Rattle.array.specs.Buffers.{over, over_at}
use Rattle.array.proofs.Over.{over_again, over_at_length}
use Rattle.interleaved_cells.specs.Cell.{Copied}

-- the first `to` of `want` stand in what was d, what lies beyond `want` is as it was, and r is left
pub record Placing (want d out : List ℕ) (to : ℕ) (r : List ℕ) : Type 0 where
  pub room : length want ≤ length d
  pub same : length out ≡ length d
  pub within : to ≤ length want
  pub front : take to out ≡ take to want
  pub back : drop (length want) out ≡ drop (length want) d
  pub left : drop to want ≡ r

pub placing_begins : (want d : List ℕ) → length want ≤ length d → Placing want d d 0 want
placing_begins want d h = record { room = h; same = refl; within = omega arith; front = refl; back = refl; left = refl }

-- what is left may be said in another way
pub placing_is : {want d out : List ℕ} {to : ℕ} {r r' : List ℕ} → Placing want d out to r → r ≡ r' → Placing want d out to r'
placing_is p e = record { room = p.room; same = p.same; within = p.within; front = p.front; back = p.back; left = p.left ∙ e }

module _ {want d out : List ℕ} {to : ℕ} where
  pub placing_left : {r : List ℕ} → Placing want d out to r → to + length r ≡ length want
  placing_left p = omega (arith, ap length p.left, length-drop to want, p.within)

  pub placing_ends : Placing want d out to [] → out ≡ over want d
  placing_ends p =
      let all : to ≡ length want = omega (arith, placing_left p) in
      sym (take-append-drop to out)
      ∙ ap₂ (λ (a b : List ℕ). a ++ b) (p.front ∙ take_all to want (omega arith)) (ap (λ (k : ℕ). drop k out) all ∙ p.back)

  -- a part g is placed, with what stands in s behind it
  pub placing_part : {g : List ℕ} (r : List ℕ) → Placing want d out to (g ++ r) → (s : List ℕ) → to + length s ≤ length want → length g ≤ length s → take (length g) s ≡ g
      → {out' : List ℕ} → out' ≡ over_at to s out → Placing want d out' (to + length g) r
  placing_part {g} r p s h l e {out'} f = record {
    room = p.room;
    same = ap length f ∙ over_at_length to s out (omega (arith, p.same, p.room)) ∙ p.same;
    within = omega arith;
    front =
        ap (take (to + length g)) f ∙ take-append-le (to + length g) (take to out ++ s) _ (omega (arith, long))
        ∙ ap (λ (k : ℕ). take (k + length g) (take to out ++ s)) (sym before) ∙ take-append-add (take to out) s (length g)
        ∙ ap₂ (λ (a b : List ℕ). a ++ b) p.front (e ∙ sym (ap (take (length g)) p.left ∙ take_at g r (length g) refl)) ∙ sym (take-add to (length g) want);
    back =
        ap (drop (length want)) f ∙ ap (λ (k : ℕ). drop k (over_at to s out)) split ∙ drop-append-add (take to out ++ s) _ (length want - length (take to out ++ s))
        ∙ drop-drop (length want - length (take to out ++ s)) (length (take to out ++ s)) out ∙ ap (λ (k : ℕ). drop k out) (sym split) ∙ p.back;
    left = sym (drop-drop (length g) to want) ∙ ap (drop (length g)) p.left ∙ drop_at g r (length g) refl;
  }
    where
      before : length (take to out) ≡ to
      before = length-take-le to out (omega (arith, p.same, p.room, p.within))

      long : length (take to out ++ s) ≡ to + length s
      long = omega (arith, length-append (take to out) s, before)

      split : length want ≡ length (take to out ++ s) + (length want - length (take to out ++ s))
      split = omega (arith, long)

  -- a cell, the first k of s, is copied with some of what lies behind it
  pub placing_cell : {k room : ℕ} {s r : List ℕ} → Placing want d out to (take k s ++ r) → k ≤ length s → to + room ≤ length want
      → {out' : List ℕ} → Copied k room s to out out' → Placing want d out' (to + k) r
  placing_cell {k} {room} {s} {r} p g h {out'} c =
      subst (λ (m : ℕ). Placing want d out' (to + m) r) long (placing_part r p copied fits enough first c.done)
    where
      copied : List ℕ
      copied = take c.count s

      long : length (take k s) ≡ k
      long = length-take-le k s g

      front : take k copied ≡ take k s
      front = take-take k c.count s c.enough

      fits : to + length copied ≤ length want
      fits = omega (arith, length-take c.count s, min-le_left c.count (length s), c.fits)

      enough : length (take k s) ≤ length copied
      enough = omega (arith, ap length front, length-take k copied, min-le_right k (length copied))

      first : take (length (take k s)) copied ≡ take k s
      first = ap (λ (m : ℕ). take m copied) long ∙ front

-- ---- a cell in blocks

-- a block behind another: both are the front of s from `at` on
pub two_blocks : (s : List ℕ) (at to : ℕ) (out : List ℕ) {out' out'' : List ℕ} → to ≤ length out → at + 32 ≤ length s → out' ≡ over_at to (take 32 (drop at s)) out
    → out'' ≡ over_at (to + 32) (take 32 (drop (at + 32) s)) out' → out'' ≡ over_at to (take 64 (drop at s)) out
two_blocks s at to out {out'} h l one e =
    e ∙ ap₂ (λ (w v : List ℕ). over_at (to + 32) (take 32 w) v) (sym (drop-drop 32 at s)) one
    ∙ over_again (take to out ++ part) more out (to + 32) (omega (arith, length-append (take to out) part, length-take-le to out h, long))
    ∙ ap (λ (w : List ℕ). over w out) (append_assoc (take to out) part more ∙ ap (λ (w : List ℕ). take to out ++ w) (sym (take-add 32 32 (drop at s))))
  where
    part : List ℕ
    part = take 32 (drop at s)

    more : List ℕ
    more = take 32 (drop 32 (drop at s))

    long : length part ≡ 32
    long = length-take-le 32 (drop at s) (omega (arith, length-drop at s))
