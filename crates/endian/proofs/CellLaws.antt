-- Cells reversed one after another, for any size, as lists.
-- Assumes nothing.
use mathlib.Core.Path.{◌≡◌, refl, sym, ap, ap₂, ◌∙◌}
use mathlib.Core.List.{List, [], ◌∷◌, ◌++◌, map, reverse, append_assoc, append-nil}
use Prim.Native.Nat.{ℕ, zero, suc, ◌+◌, ◌*◌, ◌≤◌}
use native.Mathlib.Nat.{zero-mul, zero-add, suc-mul, add-mul}
use native.Mathlib.Omega.{arith}
use lib.ListN.{length, take, drop, length-append, length-drop, take-append-drop}
use lib.Seq.{drop-drop, take-add, take_at, drop_at, length-take-le}
use Rattle.array.specs.Lists.{joined, pieces}
use Rattle.array.specs.Buffers.{over, over_at}
use Rattle.array.specs.Kind.{Order, little, big, ordered}
use Rattle.array.proofs.Lists.{map_id}
use Rattle.array.proofs.Over.{over_again}
use Rattle.array.proofs.Reversed.{length_reversed}
use Rattle.array.specs.Calls.{reversed_cells}

-- ---- what is laid behind what was laid

pub over_none : (to : ℕ) (d : List ℕ) → to ≤ length d → d ≡ over_at to [] d
over_none to d h = sym (ap (λ (l : List ℕ). over l d) (append-nil (take to d)) ∙ ap (λ (j : ℕ). take to d ++ drop j d) (length-take-le to d h) ∙ take-append-drop to d)

pub over_next : (to : ℕ) {i : ℕ} (x y d : List ℕ) → to ≤ length d → length x ≡ i → over_at (to + i) y (over_at to x d) ≡ over_at to (x ++ y) d
over_next to {i} x y d h e =
    over_again (take to d ++ x) y d (to + i) (omega (arith, length-append (take to d) x, length-take-le to d h)) ∙ ap (λ (w : List ℕ). over w d) (append_assoc (take to d) x y)

-- ---- reversed cells

pub reversed_one : (k : ℕ) (s : List ℕ) → reverse (take k s) ≡ reversed_cells k 1 s
reversed_one k s = sym (append-nil (reverse (take k s)))

pub reversed_add : (k i m : ℕ) (s : List ℕ) → reversed_cells k (i + m) s ≡ reversed_cells k i s ++ reversed_cells k m (drop (i * k) s)
reversed_add k zero m s = ap₂ (λ (n j : ℕ). reversed_cells k n (drop j s)) (zero-add m) (sym (zero-mul k))
reversed_add k (suc i) m s =
    let n : suc i + m ≡ suc (i + m) = omega arith in
    let e : k + i * k ≡ suc i * k = omega (arith, suc-mul i k) in
    ap (λ (j : ℕ). reversed_cells k j s) n
    ∙ ap (λ (r : List ℕ). reverse (take k s) ++ r)
    (reversed_add k i m (drop k s) ∙ ap (λ (r : List ℕ). reversed_cells k i (drop k s) ++ reversed_cells k m r) (drop-drop (i * k) k s ∙ ap (λ (j : ℕ). drop j s) e))
    ∙ sym (append_assoc (reverse (take k s)) (reversed_cells k i (drop k s)) (reversed_cells k m (drop (suc i * k) s)))

reversed_none : (n : ℕ) → [] ≡ reversed_cells 1 n []
reversed_none zero = refl
reversed_none (suc n) = reversed_none n

-- cells of one byte stay as they are
pub reversed_ones : (n : ℕ) (s : List ℕ) → take n s ≡ reversed_cells 1 n s
reversed_ones zero s = refl
reversed_ones (suc n) [] = reversed_none n
reversed_ones (suc n) (x ∷ s) = ap (λ (r : List ℕ). x ∷ r) (reversed_ones n s)

-- ---- cells at once: all their bytes read, then written

pub reversed_take : (k n : ℕ) (s : List ℕ) → n * k ≤ length s → reversed_cells k n (take (n * k) s) ≡ reversed_cells k n s
reversed_take k zero s h = refl
reversed_take k (suc n) s h =
    let e : suc n * k ≡ k + n * k = omega (arith, suc-mul n k) in
    let a : List ℕ = take k s in
    let b : List ℕ = take (n * k) (drop k s) in
    let la : length a ≡ k = length-take-le k s (omega arith) in
    ap (reversed_cells k (suc n)) (ap (λ (j : ℕ). take j s) e ∙ take-add k (n * k) s)
    ∙ ap₂ (λ (v r : List ℕ). reverse v ++ reversed_cells k n r) (take_at a b k la) (drop_at a b k la)
    ∙ ap (λ (r : List ℕ). reverse a ++ r) (reversed_take k n (drop k s) (omega (arith, length-drop k s)))

pub two_runs : (k n : ℕ) (s d : List ℕ) (at to : ℕ) → to + (n + n) * k ≤ length d → at + (n + n) * k ≤ length s → {out out' : List ℕ}
    → out ≡ over_at to (reversed_cells k n (drop at s)) d → out' ≡ over_at (to + n * k) (reversed_cells k n (drop (at + n * k) s)) out
    → out' ≡ over_at to (reversed_cells k (n + n) (drop at s)) d
two_runs k n s d at to p q e f =
    let x : List ℕ = reversed_cells k n (drop at s) in
    let y : List ℕ = reversed_cells k n (drop (at + n * k) s) in
    let l : length x ≡ n * k = length_reversed k n (drop at s) (omega (arith, add-mul n n k, length-drop at s)) in
    f ∙ ap (over_at (to + n * k) y) e ∙ over_next to x y d (omega arith) l
    ∙ ap (λ (w : List ℕ). over_at to w d) (sym (reversed_add k n n (drop at s) ∙ ap (λ (r : List ℕ). x ++ reversed_cells k n r) (drop-drop (n * k) at s)))

-- ---- the two orders

cells_little : (k n : ℕ) (s : List ℕ) {o : Order} → o ≡ little → take (n * k) s ≡ joined (map (ordered o) (pieces k n s))
cells_little k n s e = go n s ∙ ap joined (sym (map_id (pieces k n s))) ∙ ap (λ (x : Order). joined (map (ordered x) (pieces k n s))) (sym e)
  where
    go : (n : ℕ) (s : List ℕ) → take (n * k) s ≡ joined (pieces k n s)
    go zero s = ap (λ (m : ℕ). take m s) (zero-mul k)
    go (suc n) s =
        let q : suc n * k ≡ k + n * k = omega (arith, suc-mul n k) in
        ap (λ (m : ℕ). take m s) q ∙ take-add k (n * k) s ∙ ap (λ (r : List ℕ). take k s ++ r) (go n (drop k s))

-- the output, said of another order or size
pub copied_little : (to k n : ℕ) (s d : List ℕ) {o : Order} → o ≡ little → {out : List ℕ} → out ≡ over_at to (take (n * k) s) d → out ≡ over_at to (joined (map (ordered o) (pieces k n s))) d
copied_little to k n s d {o} e f = f ∙ ap (λ (l : List ℕ). over_at to l d) (cells_little k n s e)

pub copied_big : (to k n : ℕ) (s d : List ℕ) {o : Order} → o ≡ big → {out : List ℕ} → out ≡ over_at to (reversed_cells k n s) d → out ≡ over_at to (joined (map (ordered o) (pieces k n s))) d
copied_big to k n s d e f = f ∙ ap (λ (x : Order). over_at to (joined (map (ordered x) (pieces k n s))) d) (sym e)

pub copied_sized : (to n : ℕ) (s d : List ℕ) {k j : ℕ} → k ≡ j → {out : List ℕ} → out ≡ over_at to (reversed_cells j n s) d → out ≡ over_at to (reversed_cells k n s) d
copied_sized to n s d e f = f ∙ ap (λ (j : ℕ). over_at to (reversed_cells j n s) d) (sym e)

pub copied_ones : (to n : ℕ) (s d : List ℕ) {k : ℕ} → k ≡ 1 → {out : List ℕ} → out ≡ over_at to (take n s) d → out ≡ over_at to (reversed_cells k n s) d
copied_ones to n s d e f = copied_sized to n s d e (f ∙ ap (λ (l : List ℕ). over_at to l d) (reversed_ones n s))
