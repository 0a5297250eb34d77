-- A cell reversed in place by its ends, any number of bytes a turn.
-- Assumes nothing.
use mathlib.Core.Path.{◌≡◌, refl, sym, ap, ap₂, ◌∙◌}
use mathlib.Core.List.{List, [], ◌∷◌, ◌++◌, reverse, append_assoc, reverse-append}
use Prim.Native.Nat.{ℕ, ◌+◌, ◌-◌, ◌*◌, ◌≤◌, ◌<◌}
use native.Mathlib.Omega.{arith}
use lib.ListN.{length, take, drop, get_or, set, length-append, length-take, length-drop, length-reverse, take-append-drop}
use lib.Seq.{drop-drop, take-add, take_at, drop_at, length-take-le}
use Rattle.array.specs.Buffers.{over, over_at}
use Rattle.array.proofs.Over.{over_at_length}
use Rattle.array.specs.Calls.{reversed_cells}
use Rattle.endian.proofs.CellLaws.{reversed_ones, reversed_take}
use Rattle.array.proofs.Reversed.{length_reversed}
use Rattle.endian.proofs.Backing.{byte_over, byte_read, length_back}

-- the k bytes at `at` reversed, all else as it was
abbrev pub cell_reversed : ℕ → ℕ → List ℕ → List ℕ
cell_reversed at k d = over_at at (reverse (take k (drop at d))) d

-- cells of one byte stay as they are
pub ones_reversed : (n : ℕ) (d : List ℕ) → n * 1 ≤ length d → d ≡ over (reversed_cells 1 n d) d
ones_reversed n d h =
    let e : length (reversed_cells 1 n d) ≡ n = omega (arith, length_reversed 1 n d h) in
    sym (ap₂ (λ (a : List ℕ) (j : ℕ). a ++ drop j d) (sym (reversed_ones n d)) e ∙ take-append-drop n d)

-- ---- a cell by its ends: they are swapped, each reversed, and what lies between them is left to reverse

over_middle : (p m q g : List ℕ) {n : ℕ} → length p ≡ n → length g ≡ length m → over_at n g (p ++ (m ++ q)) ≡ p ++ (g ++ q)
over_middle p m q g {n} e f =
    let t : take n (p ++ (m ++ q)) ≡ p = take_at p (m ++ q) n e in
    let j : length (p ++ g) ≡ length (p ++ m) = omega (arith, length-append p g, length-append p m) in
    ap (λ (r : List ℕ). over (r ++ g) (p ++ (m ++ q))) t
    ∙ ap₂ (λ (i : ℕ) (r : List ℕ). p ++ g ++ drop i r) j (sym (append_assoc p m q))
    ∙ ap (λ (r : List ℕ). p ++ g ++ r) (drop_at (p ++ m) q (length (p ++ m)) refl)
    ∙ append_assoc p g q

-- what was laid is laid over
over_twice : (to : ℕ) (x y d : List ℕ) → to ≤ length d → length y ≡ length x → over_at to y (over_at to x d) ≡ over_at to y d
over_twice to x y d h e =
    let p : List ℕ = take to d in
    let q : List ℕ = drop (length (p ++ x)) d in
    let j : length (p ++ x) ≡ length (p ++ y) = omega (arith, length-append p x, length-append p y) in
    ap (over_at to y) (append_assoc p x q) ∙ over_middle p x q y (length-take-le to d h) e ∙ sym (append_assoc p y q) ∙ ap (λ (i : ℕ). p ++ y ++ drop i d) j

-- cells copied, and then reversed where they lie
pub copied_reversed : (k n : ℕ) (s d : List ℕ) (at to : ℕ) → to + n * k ≤ length d → at + n * k ≤ length s → {o1 : List ℕ} → o1 ≡ over_at to (take (n * k) (drop at s)) d
    → {o2 : List ℕ} → o2 ≡ over_at to (reversed_cells k n (drop to o1)) o1 → o2 ≡ over_at to (reversed_cells k n (drop at s)) d
copied_reversed k n s d at to p q {o1} e f =
    let x : List ℕ = take (n * k) (drop at s) in
    let a : List ℕ = take to d in
    let b : List ℕ = drop (length (a ++ x)) d in
    let h : n * k ≤ length (drop at s) = omega (arith, length-drop at s) in
    let lx : length x ≡ n * k = length-take-le (n * k) (drop at s) h in
    let g : drop to o1 ≡ x ++ b = ap (drop to) (e ∙ append_assoc a x b) ∙ drop_at a (x ++ b) to (length-take-le to d (omega arith)) in
    let r : reversed_cells k n (drop to o1) ≡ reversed_cells k n (drop at s) =
    ap (reversed_cells k n) g ∙ sym (reversed_take k n (x ++ b) (omega (arith, length-append x b))) ∙ ap (reversed_cells k n) (take_at x b (n * k) lx) ∙ reversed_take k n (drop at s) h in
    f ∙ ap₂ (λ (y o : List ℕ). over_at to y o) r e ∙ over_twice to x (reversed_cells k n (drop at s)) d (omega arith) (length_reversed k n (drop at s) h ∙ sym lx)

middle_reversed : (p m q : List ℕ) {n k : ℕ} → length p ≡ n → length m ≡ k → cell_reversed n k (p ++ (m ++ q)) ≡ p ++ (reverse m ++ q)
middle_reversed p m q {n} {k} e f =
    ap (λ (r : List ℕ). over_at n (reverse r) (p ++ (m ++ q))) (ap (take k) (drop_at p (m ++ q) n e) ∙ take_at m q k f) ∙ over_middle p m q (reverse m) e (length-reverse m)

-- the ends x and y of a cell x m y, with p before it and q behind it
module _ (p x m y q : List ℕ) {low left j : ℕ} (ep : length p ≡ low) (ex : length x ≡ j) (ey : length y ≡ j) (em : length m + (j + j) ≡ left) where
  ends_reversed : cell_reversed low left (p ++ (x ++ (m ++ (y ++ q)))) ≡ p ++ (reverse y ++ (reverse m ++ (reverse x ++ q)))
  ends_reversed =
      let c : List ℕ = x ++ (m ++ y) in
      let lc : length c ≡ left = omega (arith, length-append x (m ++ y), length-append m y) in
      let g : p ++ (x ++ (m ++ (y ++ q))) ≡ p ++ (c ++ q) = ap (λ (r : List ℕ). p ++ r) (sym (append_assoc x (m ++ y) q ∙ ap (λ (r : List ℕ). x ++ r) (append_assoc m y q))) in
      let rc : reverse c ≡ (reverse y ++ reverse m) ++ reverse x = reverse-append x (m ++ y) ∙ ap (λ (r : List ℕ). r ++ reverse x) (reverse-append m y) in
      ap (cell_reversed low left) g ∙ middle_reversed p c q ep lc
      ∙ ap (λ (r : List ℕ). p ++ r)
      (ap (λ (r : List ℕ). r ++ q) rc ∙ append_assoc (reverse y ++ reverse m) (reverse x) q ∙ append_assoc (reverse y) (reverse m) (reverse x ++ q))

  ends_swapped : over_at (low + (left - j)) (reverse x) (over_at low (reverse y) (p ++ (x ++ (m ++ (y ++ q))))) ≡ p ++ (reverse y ++ (m ++ (reverse x ++ q)))
  ends_swapped =
      let p' : List ℕ = p ++ (reverse y ++ m) in
      let lp : length p' ≡ low + (left - j) = omega (arith, length-append p (reverse y ++ m), length-append (reverse y) m, length-reverse y) in
      let lr : length (reverse y) ≡ length x = length-reverse y ∙ ey ∙ sym ex in
      let lx : length (reverse x) ≡ length y = length-reverse x ∙ ex ∙ sym ey in
      let in_front : (r : List ℕ) → p' ++ r ≡ p ++ (reverse y ++ (m ++ r)) =
      λ r. append_assoc p (reverse y ++ m) r ∙ ap (λ (z : List ℕ). p ++ z) (append_assoc (reverse y) m r) in
      ap (over_at (low + (left - j)) (reverse x)) (over_middle p x (m ++ (y ++ q)) (reverse y) ep lr ∙ sym (in_front (y ++ q)))
      ∙ over_middle p' y q (reverse x) lp lx ∙ in_front (reverse x ++ q)

  between_reversed : cell_reversed (low + j) (left - (j + j)) (p ++ (reverse y ++ (m ++ (reverse x ++ q)))) ≡ p ++ (reverse y ++ (reverse m ++ (reverse x ++ q)))
  between_reversed =
      let lp : length (p ++ reverse y) ≡ low + j = omega (arith, length-append p (reverse y), length-reverse y) in
      let lm : length m ≡ left - (j + j) = omega arith in
      ap (cell_reversed (low + j) (left - (j + j))) (sym (append_assoc p (reverse y) (m ++ (reverse x ++ q))))
      ∙ middle_reversed (p ++ reverse y) m (reverse x ++ q) lp lm
      ∙ append_assoc p (reverse y) (reverse m ++ (reverse x ++ q))

-- j bytes at low and j at high, each reversed and in the other's place
abbrev pub swapped : ℕ → ℕ → ℕ → List ℕ → List ℕ
swapped j low high d = over_at high (reverse (take j (drop low d))) (over_at low (reverse (take j (drop high d))) d)

pub bytes_swapped : (low high : ℕ) (d : List ℕ) → low < length d → high < length d → set (set d low (get_or d high 0)) high (get_or d low 0) ≡ swapped 1 low high d
bytes_swapped low high d a b =
    let f : set d low (get_or d high 0) ≡ over_at low (reverse (take 1 (drop high d))) d = byte_over d low (get_or d high 0) a ∙ ap (λ (w : List ℕ). over_at low w d) (byte_read d high b) in
    let d' : List ℕ = over_at low (reverse (take 1 (drop high d))) d in
    let s : length d' ≡ length d = over_at_length low (reverse (take 1 (drop high d))) d (omega (arith, length_back d high 1 (omega arith))) in
    ap (λ (o : List ℕ). set o high (get_or d low 0)) f ∙ byte_over d' high (get_or d low 0) (omega arith) ∙ ap (λ (w : List ℕ). over_at high w d') (byte_read d low a)

swap_ends : (out : List ℕ) (low left j : ℕ) → j + j ≤ left → low + left ≤ length out
    → cell_reversed low left out ≡ cell_reversed (low + j) (left - (j + j)) (swapped j low (low + (left - j)) out)
swap_ends out low left j h room =
    let k : ℕ = left - (j + j) in
    let p : List ℕ = take low out in
    let r : List ℕ = drop low out in
    let x : List ℕ = take j r in
    let m : List ℕ = take k (drop j r) in
    let s : List ℕ = drop k (drop j r) in
    let y : List ℕ = take j s in
    let q : List ℕ = drop j s in
    let lr : length r ≡ length out - low = length-drop low out in
    let lj : length (drop j r) ≡ length r - j = length-drop j r in
    let ls : length s ≡ length (drop j r) - k = length-drop k (drop j r) in
    let n : low + j + k ≡ low + (left - j) = omega arith in
    let es : drop (low + (left - j)) out ≡ s = sym (ap (drop k) (drop-drop j low out) ∙ drop-drop k (low + j) out ∙ ap (λ (i : ℕ). drop i out) n) in
    let e : p ++ (x ++ (m ++ (y ++ q))) ≡ out =
    ap (λ (z : List ℕ). p ++ z) (ap (λ (z : List ℕ). x ++ z) (ap (λ (z : List ℕ). m ++ z) (take-append-drop j s) ∙ take-append-drop k (drop j r)) ∙ take-append-drop j r) ∙ take-append-drop low out in
    let ep : length p ≡ low = length-take-le low out (omega arith) in
    let ex : length x ≡ j = length-take-le j r (omega arith) in
    let ey : length y ≡ j = length-take-le j s (omega arith) in
    let em : length m + (j + j) ≡ left = omega (arith, length-take-le k (drop j r) (omega arith)) in
    ap (cell_reversed low left) (sym e) ∙ ends_reversed p x m y q ep ex ey em
    ∙ sym (ap (cell_reversed (low + j) k) (ap (λ (z : List ℕ). over_at (low + (left - j)) (reverse x) (over_at low (reverse (take j z)) out)) es
    ∙ ap (λ (z : List ℕ). over_at (low + (left - j)) (reverse x) (over_at low (reverse y) z)) (sym e) ∙ ends_swapped p x m y q ep ex ey em)
    ∙ between_reversed p x m y q ep ex ey em)

-- d's cell is reversed once the cell of out that is left is
pub record Swapping (at k : ℕ) (d out : List ℕ) (low left : ℕ) : Type 0 where
  pub same : length out ≡ length d
  pub room : low + left ≤ length out
  pub comes_to : cell_reversed at k d ≡ cell_reversed low left out

pub swapping_begins : {at k : ℕ} {d : List ℕ} → at + k ≤ length d → Swapping at k d d at k
swapping_begins h = record { same = refl; room = h; comes_to = refl }

module _ {at k : ℕ} {d out : List ℕ} {low left : ℕ} (l : Swapping at k d out low left) where
  pub swapping_more : (j : ℕ) → j + j ≤ left → {out' : List ℕ} → out' ≡ swapped j low (low + (left - j)) out → Swapping at k d out' (low + j) (left - (j + j))
  swapping_more j h e =
      let high : ℕ = low + (left - j) in
      let a : List ℕ = reverse (take j (drop high out)) in
      let b : List ℕ = reverse (take j (drop low out)) in
      let la : length a ≡ j = length_back out high j (omega (arith, l.room)) in
      let lb : length b ≡ j = length_back out low j (omega (arith, l.room)) in
      let s : length (over_at low a out) ≡ length out = over_at_length low a out (omega (arith, l.room)) in
      let t : length (over_at high b (over_at low a out)) ≡ length out = over_at_length high b (over_at low a out) (omega (arith, l.room)) ∙ s in
      let u = ap length e in
      record {
        same = u ∙ t ∙ l.same;
        room = omega (arith, l.room);
        comes_to = l.comes_to ∙ swap_ends out low left j h l.room ∙ ap (cell_reversed (low + j) (left - (j + j))) (sym e);
      }

  pub swapping_cast : {i j : ℕ} → low ≡ i → left ≡ j → Swapping at k d out i j
  swapping_cast {i} {j} e f = record {
    same = l.same;
    room = omega (arith, l.room);
    comes_to = l.comes_to ∙ ap₂ (λ (x y : ℕ). cell_reversed x y out) e f;
  }

  pub swapping_ends : left ≤ 1 → out ≡ cell_reversed at k d
  swapping_ends h = sym (l.comes_to ∙ ap (λ (r : List ℕ). over_at low r out) (short (take left (drop low out)) (omega (arith, length-take left (drop low out)))) ∙ kept)
    where
      short : (s : List ℕ) → length s ≤ 1 → reverse s ≡ s
      short [] q = refl
      short (x ∷ []) q = refl
      short (x ∷ (y ∷ s)) q = absurd (omega arith)

      kept : over_at low (take left (drop low out)) out ≡ out
      kept =
          let e : take low out ++ take left (drop low out) ≡ take (low + left) out = sym (take-add low left out) in
          ap (λ (r : List ℕ). over r out) e ∙ ap (λ (j : ℕ). take (low + left) out ++ drop j out) (length-take-le (low + left) out l.room) ∙ take-append-drop (low + left) out
