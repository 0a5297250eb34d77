-- The loop that writes the offsets of a plane's cells: what is left to write, turn by turn.
-- Assumes nothing.
use mathlib.Core.Path.{◌≡◌, refl, sym, ap, ap₂, ◌∙◌, subst}
use mathlib.Core.List.{List, [], ◌∷◌, ◌++◌, append-nil}
use Prim.Native.Nat.{ℕ, zero, suc, ◌+◌, ◌-◌, ◌*◌, ◌≤◌, ◌<◌}
use native.Mathlib.Omega.{arith}
use native.Mathlib.Nat.{zero-mul, suc-mul, zero-add, add-mul}
use native.Mathlib.Numerals.{add-one}
use lib.ListN.{length, take, drop, get_or, set, replicate, length-drop}
use lib.Seq.{drop-drop, drop-cons}
use Rattle.array.specs.Bytes.{unle}
use Rattle.array.specs.Cells.{Mark, is_null, is_set, is_other, mark_of}
use Rattle.array.specs.Buffers.{over, over_at}
use Rattle.array.proofs.Laying.{Laying, laying_begins, laying_ends, laying_part, laying_store, laying_is}
use Rattle.codec.specs.Frame.{count_by, count_set, next_by, left_by}
use Rattle.stored_index.specs.Index.{offsets_in}
use Rattle.stored_index.proofs.IndexLaws.{last_at}
use Rattle.codec.proofs.Marks.{count-le, count_mark}
use Rattle.decode_marks.specs.Next.{next_at}
use Rattle.decode_offsets.specs.Ends.{ends_by, EndsStored}

length-ends_by : (t : ℕ) (p os : List ℕ) → length (ends_by t p os) ≡ length p
length-ends_by t [] os = refl
length-ends_by t (m ∷ p) os = ap suc (length-ends_by (next_by (mark_of m) t os) p (left_by (mark_of m) os))

-- with no cell set nothing is added
ends_none : (t : ℕ) (p os : List ℕ) → count_set p ≡ 0 → ends_by t p os ≡ replicate (length p) t
ends_none t [] os e = refl
ends_none t (zero ∷ p) os e = ap (λ (l : List ℕ). t ∷ l) (ends_none t p os e)
ends_none t (suc zero ∷ p) os e = absurd (omega arith)
ends_none t (suc (suc m) ∷ p) os e = ap (λ (l : List ℕ). t ∷ l) (ends_none t p os e)

-- all offsets of the plane p: those of the set cells are stored from `at` on
abbrev pub ends_of : ℕ → List ℕ → List ℕ → ℕ → List ℕ
ends_of w p s at = 0 ∷ ends_by 0 p (offsets_in w (count_set p) (drop (at + w) s))

-- the stored offset k of `cells` cells; with none of them, 0
abbrev end_at : ℕ → List ℕ → ℕ → ℕ → ℕ → ℕ
end_at w s at zero k = 0
end_at w s at (suc c) k = unle (take w (drop (at + k * w) s))

end_some : (w : ℕ) (s : List ℕ) (at cells k : ℕ) → 0 < cells → end_at w s at cells k ≡ unle (take w (drop (at + k * w) s))
end_some w s at zero k h = absurd (omega arith)
end_some w s at (suc c) k h = refl

end_first : {w : ℕ} {s : List ℕ} {at cells last : ℕ} → EndsStored w s at cells last → end_at w s at cells 0 ≡ 0
end_first {cells = zero} q = refl
end_first {w = w} {s = s} {at = at} {cells = suc c} q =
    let j : at + 0 * w ≡ at = omega (arith, zero-mul w) in
    ap (λ (a : ℕ). unle (take w (drop a s))) j ∙ q.first_is (omega arith)

end_last : {w : ℕ} {s : List ℕ} {at cells last : ℕ} → EndsStored w s at cells last → end_at w s at cells cells ≡ last
end_last {cells = zero} q = sym q.last_is
end_last {w = w} {s = s} {at = at} {cells = suc c} q =
    let j : at + suc c * w ≡ at + w + c * w = omega (arith, suc-mul c w) in
    last_at w c s (at + w) (ap (λ (a : ℕ). unle (take w (drop a s))) j) ∙ sym q.last_is

-- i cells are placed, and k of the stored ones are taken
pub record SpreadingOffsets (w : ℕ) (p s d : List ℕ) (at cells : ℕ) (out : List ℕ) (i k : ℕ) : Type 0 where
  pub within : i ≤ length p
  pub count : k + count_set (drop i p) ≡ cells
  pub laid : Laying (ends_of w p s at) d 0 out i (end_at w s at cells k ∷ ends_by (end_at w s at cells k) (drop i p) (offsets_in w (count_set (drop i p)) (drop (at + w + k * w) s)))

pub ends_begin : (p d : List ℕ) {w : ℕ} {s : List ℕ} {at cells last : ℕ} → EndsStored w s at cells last → cells ≡ count_set p → length p + 1 ≤ length d
    → SpreadingOffsets w p s d at cells d 0 0
ends_begin p d {w} {s} {at} {cells} q e r =
    let os : ℕ → List ℕ = λ (a : ℕ). offsets_in w (count_set p) (drop a s) in
    let j : at + w ≡ at + w + 0 * w = omega (arith, zero-mul w) in
    record {
      within = omega arith;
      count = omega arith;
      laid = laying_is (laying_begins (ends_of w p s at) d 0 (omega (arith, length-ends_by 0 p (os (at + w)))))
          (ap₂ (λ (t a : ℕ). t ∷ ends_by t p (os a)) (sym (end_first q)) j);
    }

module _ {w : ℕ} {p s d : List ℕ} {at cells : ℕ} {out : List ℕ} {i k : ℕ} (c : SpreadingOffsets w p s d at cells out i k) where
  -- no stored one is left: all others are the last
  pub ends_end : cells ≤ k → {last : ℕ} → EndsStored w s at cells last → {n : ℕ} → length p ≡ n → {out' : List ℕ}
      → out' ≡ over_at i (replicate (n + 1 - i) last) out → out' ≡ over (ends_of w p s at) d
  ends_end h {last} q {n} en {out'} eo =
      let os : List ℕ = offsets_in w (count_set (drop i p)) (drop (at + w + k * w) s) in
      let z : List ℕ = replicate (n + 1 - i) last in
      let l : suc (length (drop i p)) ≡ n + 1 - i = omega (arith, length-drop i p, c.within) in
      let all : k ≡ cells = omega (arith, c.count) in
      let end : end_at w s at cells k ≡ last = ap (end_at w s at cells) all ∙ end_last q in
      let left : end_at w s at cells k ∷ ends_by (end_at w s at cells k) (drop i p) os ≡ z ++ [] =
      ap (λ (t : ℕ). t ∷ ends_by t (drop i p) os) end
      ∙ ap (λ (l : List ℕ). last ∷ l) (ends_none last (drop i p) os (omega (arith, c.count))) ∙ ap (λ (j : ℕ). replicate {A = ℕ} j last) l ∙ sym (append-nil z) in
      laying_ends (ends_of w p s at) d 0 out' (i + length z)
      (laying_part (ends_of w p s at) d 0 out i z [] (laying_is c.laid left) out' (eo ∙ ap (λ (j : ℕ). over_at j z out) (sym (zero-add i))) (i + length z) refl)

  module _ (g : k < cells) where
    -- a stored one is left, so some cell is
    pub ends_inside : i < length p
    ends_inside = omega (arith, c.count, count-le (drop i p), length-drop i p)

    abbrev end : ℕ
    end = end_at w s at cells k

    abbrev later : ℕ
    later = count_set (drop (i + 1) p)

    rest_is : drop i p ≡ get_or p i 0 ∷ drop (i + 1) p
    rest_is = drop-cons p i 0 ends_inside ∙ ap (λ (k : ℕ). get_or p i 0 ∷ drop k p) (sym (add-one i))

    -- with so many taken then, what is left
    record Next (taken : ℕ) : Type 0 where
      count : taken + later ≡ cells
      is : ends_by end (drop i p) (offsets_in w (count_set (drop i p)) (drop (at + w + k * w) s))
          ≡ end_at w s at cells taken ∷ ends_by (end_at w s at cells taken) (drop (i + 1) p) (offsets_in w later (drop (at + w + taken * w) s))

    module _ {m : Mark} (e : m ≡ mark_of (get_or p i 0)) where
      abbrev ends-left : List ℕ
      ends-left = offsets_in w (count_by m later) (drop (at + w + k * w) s)

      counted : count_set (drop i p) ≡ count_by m later
      counted = count_mark p i ends_inside (sym e)

      by_mark : ends_by end (drop i p) (offsets_in w (count_set (drop i p)) (drop (at + w + k * w) s))
          ≡ next_by m end ends-left ∷ ends_by (next_by m end ends-left) (drop (i + 1) p) (left_by m ends-left)
      by_mark =
          ap₂ (λ (l : List ℕ) (n : ℕ). ends_by end l (offsets_in w n (drop (at + w + k * w) s))) rest_is counted
          ∙ ap (λ (m : Mark). next_by m end ends-left ∷ ends_by (next_by m end ends-left) (drop (i + 1) p) (left_by m ends-left)) (sym e)

    next : (m : Mark) → m ≡ mark_of (get_or p i 0) → Next (next_at m k 1)
    next is_null e = record { count = omega (arith, c.count, counted e); is = by_mark e }
    next is_other e = record { count = omega (arith, c.count, counted e); is = by_mark e }
    next is_set e =
        let q : List ℕ = drop (at + w + k * w) s in
        let j : at + w + k * w + w ≡ at + w + (k + 1) * w = omega (arith, add-mul k 1 w) in
        let same : at + w + k * w ≡ at + (k + 1) * w = omega (arith, add-mul k 1 w) in
        let t : unle (take w q) ≡ end_at w s at cells (k + 1) = ap (λ (a : ℕ). unle (take w (drop a s))) same ∙ sym (end_some w s at cells (k + 1) (omega arith)) in
        let dr : drop w q ≡ drop (at + w + (k + 1) * w) s = drop-drop w (at + w + k * w) s ∙ ap (λ (a : ℕ). drop a s) j in
        record {
          count = omega (arith, c.count, counted e);
          is = by_mark e ∙ ap₂ (λ (x : ℕ) (l : List ℕ). x ∷ ends_by x (drop (i + 1) p) (offsets_in w later l)) t dr;
        }

    pub ends_more : {m : Mark} → m ≡ mark_of (get_or p i 0) → {t : ℕ} → t ≡ unle (take w (drop (at + k * w) s))
        → SpreadingOffsets w p s d at cells (set out i t) (i + 1) (next_at m k 1)
    ends_more {m} e {t} et = record {
      within = omega (arith, ends_inside);
      count = (next m e).count;
      laid = laying_is (subst (λ (x : ℕ). Laying (ends_of w p s at) d 0 (set out i x) (i + 1) left) (end_some w s at cells k (omega arith) ∙ sym et) stored) (next m e).is;
    }
      where
        left : List ℕ
        left = ends_by end (drop i p) (offsets_in w (count_set (drop i p)) (drop (at + w + k * w) s))

        stored : Laying (ends_of w p s at) d 0 (set out i end) (i + 1) left
        stored =
            subst (λ (k : ℕ). Laying (ends_of w p s at) d 0 (set out k end) (i + 1) left) (zero-add i)
            (laying_store (ends_of w p s at) d 0 out i end _ c.laid)
