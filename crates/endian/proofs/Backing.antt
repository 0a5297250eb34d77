-- A copy, the last byte first: any number of bytes a turn, each number reversed by itself.
-- Assumes nothing.
use mathlib.Core.Path.{◌≡◌, sym, ap, ap₂, ◌∙◌}
use mathlib.Core.List.{List, [], ◌∷◌, ◌++◌, reverse, reverse-append}
use Prim.Native.Nat.{ℕ, ◌+◌, ◌-◌, ◌≤◌, ◌<◌}
use native.Mathlib.Omega.{arith}
use lib.ListN.{length, take, drop, get_or, set, length-drop, length-reverse}
use lib.Seq.{drop-drop, take-add, length-take-le}
use Rattle.array.specs.Buffers.{over_at}
use Rattle.array.proofs.Over.{over_at_length}
use Rattle.buffer.proofs.Unrolled.{reads_take, stores_over}
use Rattle.endian.proofs.CellLaws.{over_none, over_next}
use Rattle.word.proofs.Words.{reverse_one}

-- what lies behind comes first
reverse-add : (m i : ℕ) (q : List ℕ) → reverse (take (m + i) q) ≡ reverse (take i (drop m q)) ++ reverse (take m q)
reverse-add m i q = ap reverse (take-add m i q) ∙ reverse-append (take m q) (take i (drop m q))

-- one byte stored, and one byte read
pub byte_over : (d : List ℕ) (j x : ℕ) → j < length d → set d j x ≡ over_at j (x ∷ []) d
byte_over d j x h = stores_over j (x ∷ []) d (omega arith)

pub byte_read : (s : List ℕ) (j : ℕ) → j < length s → get_or s j 0 ∷ [] ≡ reverse (take 1 (drop j s))
byte_read s j h = reads_take s j 1 (omega arith) ∙ sym (reverse_one (drop j s))

pub length_back : (s : List ℕ) (at i : ℕ) → at + i ≤ length s → length (reverse (take i (drop at s))) ≡ i
length_back s at i h = length-reverse (take i (drop at s)) ∙ length-take-le i (drop at s) (omega (arith, length-drop at s))

-- the last i of k bytes lie at `to` in what was d, and the first `left` are left
pub record Backing (d : List ℕ) (to : ℕ) (s : List ℕ) (at k : ℕ) (out : List ℕ) (i left : ℕ) : Type 0 where
  pub all : i + left ≡ k
  pub room : to + k ≤ length d
  pub source : at + k ≤ length s
  pub here : out ≡ over_at to (reverse (take i (drop (at + left) s))) d

pub back_begins : {d : List ℕ} {to : ℕ} {s : List ℕ} {at k : ℕ} → to + k ≤ length d → at + k ≤ length s → Backing d to s at k d 0 k
back_begins {d} {to} p q = record { all = omega arith; room = p; source = q; here = over_none to d (omega arith) }

module _ {d : List ℕ} {to : ℕ} {s : List ℕ} {at k : ℕ} {out : List ℕ} {i left : ℕ} (l : Backing d to s at k out i left) where
  long : length (reverse (take i (drop (at + left) s))) ≡ i
  long = length_back s (at + left) i (omega (arith, l.all, l.source))

  pub back_same : length out ≡ length d
  back_same = ap length l.here ∙ over_at_length to (reverse (take i (drop (at + left) s))) d (omega (arith, long, l.all, l.room))

  pub back_cast : {j rest : ℕ} → i ≡ j → left ≡ rest → Backing d to s at k out j rest
  back_cast e f = record {
    all = omega (arith, l.all);
    room = l.room;
    source = l.source;
    here = l.here ∙ ap₂ (λ (x y : ℕ). over_at to (reverse (take x (drop (at + y) s))) d) e f;
  }

  pub back_ends : left ≡ 0 → out ≡ over_at to (reverse (take k (drop at s))) d
  back_ends h =
      let e : i ≡ k = omega (arith, l.all) in
      let f : at + left ≡ at = omega arith in
      l.here ∙ ap (λ (j : ℕ). over_at to (reverse (take j (drop (at + left) s))) d) e ∙ ap (λ (j : ℕ). over_at to (reverse (take k (drop j s))) d) f

  -- m bytes more
  pub back_more : (m : ℕ) → m ≤ left → {out' : List ℕ} → out' ≡ over_at (to + i) (reverse (take m (drop (at + (left - m)) s))) out → Backing d to s at k out' (i + m) (left - m)
  back_more m h {out'} e =
      let x : List ℕ = reverse (take i (drop (at + left) s)) in
      let g : List ℕ = reverse (take m (drop (at + (left - m)) s)) in
      let n : i + m ≡ m + i = omega arith in
      let f : at + (left - m) + m ≡ at + left = omega arith in
      record {
        all = omega (arith, l.all);
        room = l.room;
        source = l.source;
        here = e ∙ ap (over_at (to + i) g) l.here ∙ over_next to x g d (omega (arith, l.room)) long
            ∙ ap (λ (w : List ℕ). over_at to w d)
            (sym (ap (λ (j : ℕ). reverse (take j (drop (at + (left - m)) s))) n ∙ reverse-add m i (drop (at + (left - m)) s)
            ∙ ap (λ (r : List ℕ). reverse (take i r) ++ g) (drop-drop m (at + (left - m)) s ∙ ap (λ (j : ℕ). drop j s) f)));
      }

  pub back_room : (m : ℕ) → m ≤ left → to + i + m ≤ length out
  back_room m h = omega (arith, back_same, l.room, l.all)

-- two parts, the second first
pub two-parts : (d : List ℕ) (to : ℕ) (s : List ℕ) (at m : ℕ) → to + (m + m) ≤ length d → at + (m + m) ≤ length s
    → {out out' : List ℕ} → out ≡ over_at to (reverse (take m (drop (at + m) s))) d → out' ≡ over_at (to + m) (reverse (take m (drop at s))) out
    → out' ≡ over_at to (reverse (take (m + m) (drop at s))) d
two-parts d to s at m p q e f =
    let x : List ℕ = reverse (take m (drop (at + m) s)) in
    let y : List ℕ = reverse (take m (drop at s)) in
    f ∙ ap (over_at (to + m) y) e ∙ over_next to x y d (omega arith) (length_back s (at + m) m (omega arith))
    ∙ ap (λ (w : List ℕ). over_at to w d) (sym (reverse-add m m (drop at s) ∙ ap (λ (r : List ℕ). reverse (take m r) ++ y) (drop-drop m at s)))
