-- One invariant for every loop that writes: what lies there, and what is left to write.
-- Assumes nothing.
use mathlib.Core.Path.{◌≡◌, refl, sym, ap, ◌∙◌}
use mathlib.Core.List.{List, [], ◌∷◌, ◌++◌, append_assoc, append-nil}
use Prim.Native.Nat.{ℕ, suc, ◌+◌, ◌≤◌, ◌<◌}
use native.Mathlib.Omega.{arith}
use lib.ListN.{length, take, drop, get_or, set, length-append, length-drop, take-append-drop, get_or-append}
use lib.Seq.{drop-drop, take_all, take-add, take_at, drop_at, length-take-le, get_or-take}
use Rattle.array.specs.Buffers.{over, over_at}
use Rattle.array.proofs.Over.{over-length, over_again, over_store}

-- the first i of `want` lie at `to` in what was d, and r is left
pub record Laying (want d : List ℕ) (to : ℕ) (out : List ℕ) (i : ℕ) (r : List ℕ) : Type 0 where
  pub room : to + length want ≤ length d
  pub within : i ≤ length want
  pub here : out ≡ over (take to d ++ take i want) d
  pub left : drop i want ≡ r

pub laying_begins : (want d : List ℕ) (to : ℕ) → to + length want ≤ length d → Laying want d to d 0 want
laying_begins want d to h = record {
  room = h;
  within = omega arith;
  here = sym (ap (λ (l : List ℕ). over l d) (append-nil (take to d)) ∙ ap (λ (j : ℕ). take to d ++ drop j d) (length-take-le to d (omega arith)) ∙ take-append-drop to d);
  left = refl;
}

module _ (want d : List ℕ) (to : ℕ) (out : List ℕ) (i : ℕ) where
  front : (r : List ℕ) → Laying want d to out i r → length (take to d ++ take i want) ≡ to + i
  front r l = omega (arith, length-append (take to d) (take i want), length-take-le to d (omega (arith, l.room)), length-take-le i want l.within)

  pub laying_same : (r : List ℕ) → Laying want d to out i r → length out ≡ length d
  laying_same r l = ap length l.here ∙ over-length (take to d ++ take i want) d (omega (arith, front r l, l.room, l.within))

  pub laying_left : (r : List ℕ) → Laying want d to out i r → i + length r ≡ length want
  laying_left r l = omega (arith, ap length l.left, length-drop i want, l.within)

  pub laying_ends : Laying want d to out i [] → out ≡ over_at to want d
  laying_ends l = l.here ∙ ap (λ (w : List ℕ). over (take to d ++ w) d) (take_all i want (omega (arith, laying_left [] l)))

  -- a part is laid
  pub laying_part : (g r : List ℕ) → Laying want d to out i (g ++ r) → (out' : List ℕ) → out' ≡ over_at (to + i) g out → (j : ℕ) → j ≡ i + length g → Laying want d to out' j r
  laying_part g r l out' e j ej =
      let lw : i + (length g + length r) ≡ length want = omega (arith, laying_left (g ++ r) l, length-append g r) in
      let tk : take (i + length g) want ≡ take i want ++ g = take-add i (length g) want ∙ ap (λ (w : List ℕ). take i want ++ take (length g) w) l.left ∙ ap
      (λ (w : List ℕ). take i want ++ w) (take_at g r (length g) refl) in
      let dr : drop (i + length g) want ≡ r = sym (drop-drop (length g) i want) ∙ ap (drop (length g)) l.left ∙ drop_at g r (length g) refl in
      record {
        room = l.room;
        within = omega arith;
        here = e ∙ ap (over_at (to + i) g) l.here ∙ over_again (take to d ++ take i want) g d (to + i) (front (g ++ r) l)
            ∙ ap (λ (w : List ℕ). over w d) (append_assoc (take to d) (take i want) g ∙ ap (λ (w : List ℕ). take to d ++ w) (sym (ap (λ (k : ℕ). take k want) ej ∙ tk)));
        left = ap (λ (k : ℕ). drop k want) ej ∙ dr;
      }

  -- one element is stored
  pub laying_store : (x : ℕ) (r : List ℕ) → Laying want d to out i (x ∷ r) → Laying want d to (set out (to + i) x) (i + 1) r
  laying_store x r l =
      let lw : i + suc (length r) ≡ length want = laying_left (x ∷ r) l in
      laying_part (x ∷ []) r l (set out (to + i) x)
      (ap (λ (o : List ℕ). set o (to + i) x) l.here ∙ over_store (take to d ++ take i want) d (to + i) x (front (x ∷ r) l) (omega (arith, l.room, lw))
      ∙ sym (ap (over_at (to + i) (x ∷ [])) l.here ∙ over_again (take to d ++ take i want) (x ∷ []) d (to + i) (front (x ∷ r) l)))
      (i + 1) refl

-- what is left may be said in another way
pub laying_is : {want d : List ℕ} {to : ℕ} {out : List ℕ} {i : ℕ} {r r' : List ℕ} → Laying want d to out i r → r ≡ r' → Laying want d to out i r'
laying_is l e = record { room = l.room; within = l.within; here = l.here; left = l.left ∙ e }

pub laying_room : (want d : List ℕ) (to : ℕ) (out : List ℕ) (i x : ℕ) (r : List ℕ) → Laying want d to out i (x ∷ r) → to + i < length out
laying_room want d to out i x r l = omega (arith, laying_same want d to out i (x ∷ r) l, laying_left want d to out i (x ∷ r) l, l.room)

-- what lies before is as it was
pub laying_before : (want d : List ℕ) (to : ℕ) (out : List ℕ) (i : ℕ) (r : List ℕ) → Laying want d to out i r → (k : ℕ) → k < to → get_or out k 0 ≡ get_or d k 0
laying_before want d to out i r l k h =
    let lt : length (take to d) ≡ to = length-take-le to d (omega (arith, l.room)) in
    ap (λ (o : List ℕ). get_or o k 0) l.here
    ∙ get_or-append (take to d ++ take i want) _ 0 k (omega (arith, length-append (take to d) (take i want)))
    ∙ get_or-append (take to d) (take i want) 0 k (omega arith)
    ∙ get_or-take to d k 0 h
