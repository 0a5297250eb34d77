-- Cells of any size, one after another, any number of them a turn: copied, and reversed where they lie.
-- Assumes nothing.
use mathlib.Core.Path.{◌≡◌, refl, sym, ap, ◌∙◌}
use mathlib.Core.List.{List, [], ◌∷◌, ◌++◌, reverse, append-nil}
use Prim.Native.Nat.{ℕ, suc, ◌+◌, ◌*◌, ◌≤◌, ◌<◌}
use native.Mathlib.Nat.{suc-mul, add-mul, mul_assoc, mul-le-mul_right}
use native.Mathlib.Omega.{arith}
use native.Mathlib.Numerals.{add-one}
use lib.ListN.{length, take, drop, length-append, length-drop}
use lib.Seq.{drop-drop, drop_at, length-take-le}
use Rattle.array.specs.Buffers.{over_at}
use Rattle.array.proofs.Over.{over_at_length}
use Rattle.array.specs.Calls.{reversed_cells}
use Rattle.endian.proofs.CellLaws.{over_none, over_next, reversed_one, reversed_add}
use Rattle.array.proofs.Reversed.{length_reversed}

-- the first i of n cells lie at `to` in what was d
pub record Copies (d : List ℕ) (to : ℕ) (s : List ℕ) (at k n : ℕ) (out : List ℕ) (i : ℕ) : Type 0 where
  pub within : i ≤ n
  pub room : to + n * k ≤ length d
  pub source : at + n * k ≤ length s
  pub here : out ≡ over_at to (reversed_cells k i (drop at s)) d

pub copies_begin : {d : List ℕ} {to : ℕ} {s : List ℕ} {at k n : ℕ} → to + n * k ≤ length d → at + n * k ≤ length s → Copies d to s at k n d 0
copies_begin {d} {to} p q = record {
  within = omega arith;
  room = p;
  source = q;
  here = over_none to d (omega arith);
}

module _ {d : List ℕ} {to : ℕ} {s : List ℕ} {at k n : ℕ} {out : List ℕ} {i : ℕ} (l : Copies d to s at k n out i) where
  pub copies_cast : {j : ℕ} → i ≡ j → Copies d to s at k n out j
  copies_cast {j} e = record {
    within = omega (arith, l.within);
    room = l.room;
    source = l.source;
    here = l.here ∙ ap (λ (x : ℕ). over_at to (reversed_cells k x (drop at s)) d) e;
  }

  long : length (reversed_cells k i (drop at s)) ≡ i * k
  long = length_reversed k i (drop at s) (omega (arith, length-drop at s, l.source, mul-le-mul_right {m = i} {n = n} k l.within))

  pub copies_same : length out ≡ length d
  copies_same = ap length l.here ∙ over_at_length to (reversed_cells k i (drop at s)) d (omega (arith, long, l.room, mul-le-mul_right {m = i} {n = n} k l.within))

  pub copies_end : n ≤ i → out ≡ over_at to (reversed_cells k n (drop at s)) d
  copies_end h = (copies_cast {j = n} (omega (arith, l.within))).here

  -- where there is room for the cells alone
  pub copies_all : n ≤ i → n * k ≡ length d → to ≡ 0 → out ≡ reversed_cells k n (drop at s)
  copies_all h e z =
      let x : List ℕ = reversed_cells k n (drop at s) in
      copies_end h ∙ ap (λ (j : ℕ). over_at j x d) z
      ∙ ap (λ (r : List ℕ). x ++ r) (none (drop (length x) d) (omega (arith, length-drop (length x) d, length_reversed k n (drop at s) (omega (arith, length-drop at s, l.source))))) ∙ append-nil x
    where
      none : (r : List ℕ) → length r ≡ 0 → r ≡ []
      none [] q = refl
      none (y ∷ r) q = absurd (omega arith)

  -- what lies behind the cells
  copies_behind : drop (to + i * k) out ≡ drop (to + i * k) d
  copies_behind =
      let x : List ℕ = take to d ++ reversed_cells k i (drop at s) in
      let e : length x ≡ to + i * k = omega (arith, long, length-append (take to d) (reversed_cells k i (drop at s)), length-take-le to d (omega (arith, l.room))) in
      ap (drop (to + i * k)) l.here ∙ drop_at x (drop (length x) d) (to + i * k) e ∙ ap (λ (j : ℕ). drop j d) e

  -- m cells more, p bytes behind the first
  pub copies_more : (m : ℕ) → i + m ≤ n → {p : ℕ} → p ≡ i * k → {out' : List ℕ} → out' ≡ over_at (to + p) (reversed_cells k m (drop (at + p) s)) out → Copies d to s at k n out' (i + m)
  copies_more m h {p = p} q {out'} e =
      let f : List ℕ = reversed_cells k i (drop at s) in
      let g : List ℕ = reversed_cells k m (drop (at + i * k) s) in
      record {
        within = h;
        room = l.room;
        source = l.source;
        here = e ∙ ap (λ (j : ℕ). over_at (to + j) (reversed_cells k m (drop (at + j) s)) out) q
            ∙ ap (over_at (to + i * k) g) l.here ∙ over_next to f g d (omega (arith, l.room)) long
            ∙ ap (λ (w : List ℕ). over_at to w d) (sym (reversed_add k i m (drop at s) ∙ ap (λ (r : List ℕ). f ++ reversed_cells k m r) (drop-drop (i * k) at s)));
      }

  module _ (h : i < n) where
    pub copies_room : i * k + k ≤ n * k
    copies_room = omega (arith, mul-le-mul_right {m = suc i} {n = n} k (omega arith), suc-mul i k)

    pub copies_next : {out' : List ℕ} → out' ≡ over_at (to + i * k) (reverse (take k (drop (at + i * k) s))) out → Copies d to s at k n out' (i + 1)
    copies_next e = copies_more 1 (omega arith) {p = i * k} refl (e ∙ ap (λ (g : List ℕ). over_at (to + i * k) g out) (reversed_one k (drop (at + i * k) s)))

-- where they lie: m cells more, at p
module _ {d : List ℕ} {to k n : ℕ} {out : List ℕ} {i : ℕ} (l : Copies d to d to k n out i) where
  pub reversing_more : (m : ℕ) → i + m ≤ n → {p : ℕ} → p ≡ to + i * k → {out' : List ℕ} → out' ≡ over_at p (reversed_cells k m (drop p out)) out → Copies d to d to k n out' (i + m)
  reversing_more m h {p = p} q e =
      copies_more l m h {p = i * k} refl
      (e ∙ ap (λ (j : ℕ). over_at j (reversed_cells k m (drop j out)) out) q ∙ ap (λ (r : List ℕ). over_at (to + i * k) (reversed_cells k m r) out) (copies_behind l))

  pub reversing_next : i < n → (p : ℕ) → p ≡ to + i * k → {out' : List ℕ} → out' ≡ over_at p (reverse (take k (drop p out))) out → Copies d to d to k n out' (i + 1)
  reversing_next h p q e = reversing_more 1 (omega arith) q (e ∙ ap (λ (g : List ℕ). over_at p g out) (reversed_one k (drop p out)))

-- ---- by lines of 64 bytes, m cells each: two blocks of b cells

module _ (k : ℕ) {m : ℕ} (b : ℕ) (line : m ≡ b + b) (block : b * k ≡ 32) where
  pub line_bytes : (i : ℕ) → i * m * k ≡ i * 64
  line_bytes i = let e : m * k ≡ 64 = ap (λ (j : ℕ). j * k) line ∙ add-mul b b k ∙ ap (λ (j : ℕ). j + j) block in mul_assoc i m k ∙ ap (λ (j : ℕ). i * j) e

  next_line : (i : ℕ) → i * m + b + b ≡ (i + 1) * m
  next_line i = omega (arith, ap (λ (j : ℕ). j * m) (add-one i), suc-mul i m)

  pub line_within : (i lines n : ℕ) → lines * m ≤ n → i < lines → i * m + b + b ≤ n
  line_within i lines n h g = omega (arith, next_line i, mul-le-mul_right {m = i + 1} {n = lines} m (omega arith))

  module _ (n i : ℕ) (h : i * m + b + b ≤ n) where
    second : i * 64 + 32 ≡ (i * m + b) * k
    second = sym (add-mul (i * m) b k ∙ omega (arith, line_bytes i))

    pub line_room : i * 64 + 64 ≤ n * k
    line_room = omega (arith, line_bytes i, add-mul (i * m) b k, add-mul (i * m + b) b k, mul-le-mul_right {m = i * m + b + b} {n = n} k h)

    pub copies_line : {d : List ℕ} {to : ℕ} {s : List ℕ} {at : ℕ} {out : List ℕ} → Copies d to s at k n out (i * m)
        → {out' : List ℕ} → out' ≡ over_at (to + i * 64) (reversed_cells k b (drop (at + i * 64) s)) out
        → {out'' : List ℕ} → out'' ≡ over_at (to + (i * 64 + 32)) (reversed_cells k b (drop (at + (i * 64 + 32)) s)) out' → Copies d to s at k n out'' ((i + 1) * m)
    copies_line l e f = copies_cast (copies_more (copies_more l b (omega arith) (sym (line_bytes i)) e) b h second f) (next_line i)

    pub reversing_line : {d : List ℕ} {out : List ℕ} → Copies d 0 d 0 k n out (i * m)
        → {out' : List ℕ} → out' ≡ over_at (i * 64) (reversed_cells k b (drop (i * 64) out)) out
        → {out'' : List ℕ} → out'' ≡ over_at (i * 64 + 32) (reversed_cells k b (drop (i * 64 + 32) out')) out' → Copies d 0 d 0 k n out'' ((i + 1) * m)
    reversing_line l e f =
        copies_cast (reversing_more (reversing_more l b (omega arith) {p = i * 64} (omega (arith, line_bytes i)) e) b h {p = i * 64 + 32} (omega (arith, second)) f) (next_line i)
