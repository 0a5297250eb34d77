-- Ragged values copied row by row, and where they end: what holds at the loops' heads, and a turn. The data begins at `base` of the bytes s.
-- Assumes nothing.
use mathlib.Core.Path.{◌≡◌, refl, sym, ap, ap₂, ◌∙◌, subst}
use Prim.Native.Nat.{ℕ, suc, ◌+◌, ◌-◌, ◌≤◌, ◌<◌}
use native.Mathlib.Nat.{add-zero, sub-zero, zero-add}
use native.Mathlib.Omega.{arith}
use mathlib.Core.List.{List, [], ◌∷◌, map}
use lib.ListN.{length, take, drop, set, length-drop, length-map}
use lib.Seq.{drop-drop}
use Rattle.array.specs.Lists.{from, joined}
use Rattle.array.specs.Shape.{volume}
use Rattle.array.specs.Offsets.{ends}
use Rattle.array.specs.Buffers.{over, over_at}
use Rattle.array.specs.Places.{Rises, step_at, values_at}
use Rattle.array.proofs.Lists.{length_from_lem}
use Rattle.array.proofs.Offsets.{length-ends}
use Rattle.array.proofs.Over.{over_store, over_again}
use Rattle.array.proofs.Laying.{Laying, laying_begins, laying_same, laying_ends, laying_left, laying_store, laying_is, laying_room}
use Rattle.array.proofs.Places.{run_rises, run_below}
use Rattle.subset.specs.Walk.{row_of, Left, RowAt}
use Rattle.subset.proofs.Rows.{left-ends}
use Rattle.cut_ragged.proofs.Walk.{Copied, copied_begins, copied_same, copied_ends, row_room, row_copied, row_ended, row_ends_room}

-- ---- ragged values and where they end, in one loop

pub record Ragged (off : ℕ → ℕ) (s cs oldv oldo ov oo : List ℕ) (cells n at total : ℕ) : Type 0 where
  pub copied : Copied off s cs oldv 0 ov cells n at total
  pub ended : Laying (ends 0 (values_at off s cs)) oldo 1 oo at (ends total (values_at off s (drop at cs)))

values_many : (off : ℕ → ℕ) (s cs : List ℕ) → length (ends 0 (values_at off s cs)) ≡ length cs
values_many off s cs = length-ends 0 (values_at off s cs) ∙ length-map cs (λ j. take (step_at off j) (drop (off j) s))

pub ragged_begins : (off : ℕ → ℕ) (s oldv oldo : List ℕ) {cs : List ℕ} {cells n : ℕ} → Left cs cells n 0 → length (joined (values_at off s cs)) ≤ length oldv
    → suc (length cs) ≤ length oldo → Ragged off s cs oldv oldo oldv oldo cells n 0 0
ragged_begins off s oldv oldo {cs} g h m = record {
  copied = copied_begins off s oldv 0 g (omega arith);
  ended = laying_begins (ends 0 (values_at off s cs)) oldo 1 (omega (arith, values_many off s cs));
}

module _ {off : ℕ → ℕ} {s cs oldv oldo ov oo : List ℕ} {cells m at total : ℕ} (c : Ragged off s cs oldv oldo ov oo cells m at total) where
  pub ragged_same : length ov ≡ length oldv
  ragged_same = copied_same c.copied

  pub ragged_same_offsets : length oo ≡ length oldo
  ragged_same_offsets = laying_same (ends 0 (values_at off s cs)) oldo 1 oo at (ends total (values_at off s (drop at cs))) c.ended

  module _ (h : cells ≤ at) where
    pub ragged_values : ov ≡ over (joined (values_at off s cs)) oldv
    ragged_values = copied_ends c.copied h

    pub ragged_offsets : oo ≡ over_at 1 (ends 0 (values_at off s cs)) oldo
    ragged_offsets =
        laying_ends (ends 0 (values_at off s cs)) oldo 1 oo at
        (laying_is c.ended (ap (λ (js : List ℕ). ends total (values_at off s js)) (left-ends c.copied.geo h)))

    pub ragged_total : total ≡ length (joined (values_at off s cs))
    ragged_total =
        omega (
          arith,
          laying_left (joined (values_at off s cs)) oldv 0 ov total (joined (values_at off s (drop at cs))) c.copied.laid,
          ap (λ (js : List ℕ). length (joined (values_at off s js))) (left-ends c.copied.geo h),
        )

-- ---- the next row: n neighbours from the cell a on

pub record NextRow (off : ℕ → ℕ) (s : List ℕ) (base : ℕ) (ov oo : List ℕ) (at total a n : ℕ) : Type 0 where
  pub rises : off a ≤ off (a + n)
  pub data_room : base + off (a + n) ≤ length s
  pub room : total + (off (a + n) - off a) ≤ length ov
  pub room_offsets : at + 1 + n ≤ length oo

module _ {off : ℕ → ℕ} (s : List ℕ) (base : ℕ) {cs oldv oldo ov oo : List ℕ} {cells m at total : ℕ} (c : Ragged off (drop base s) cs oldv oldo ov oo cells m at total)
    {sh ls : List ℕ} {a n : ℕ} (q : RowAt sh ls cs cells at a n) (r : Rises off (volume sh)) (l : base + off (volume sh) ≤ length s) where
  within-data : off (volume sh) ≤ length (drop base s)
  within-data = omega (arith, length-drop base s)

  pub next_row : NextRow off s base ov oo at total a n
  next_row = record {
    rises = run_rises r a n q.inside;
    data_room = omega (arith, run_below r a n q.inside);
    room = omega (arith, row_room q r (drop base s) within-data c.copied);
    room_offsets = row_ends_room q r (drop base s) within-data total c.ended;
  }

  -- it is copied, from its begin up to its end
  pub next_copied : {x y : ℕ} → x ≡ off a → y ≡ off (a + n) → {ov' oo' : List ℕ} → ov' ≡ over_at total (take (y - x) (drop (base + x) s)) ov
      → oo' ≡ over_at (at + 1) (map (λ j. total + (off (suc j) - x)) (from a n)) oo
      → Ragged off (drop base s) cs oldv oldo ov' oo' cells (row_of ls) (at + n) (total + (y - x))
  next_copied {x} {y} ex ey {ov'} {oo'} e w =
      let step : y - x ≡ off (a + n) - off a = ap₂ (λ (i j : ℕ). i - j) ey ex in
      let here : drop (base + x) s ≡ drop (off a) (drop base s) = ap (λ (i : ℕ). drop (base + i) s) ex ∙ sym (drop-drop (off a) base s) in
      record {
        copied = row_copied q r (drop base s) within-data c.copied step
            (e ∙ ap₂ (λ (i : ℕ) (u : List ℕ). over_at i (take (y - x) u) ov) (sym (zero-add total)) here);
        ended = subst (λ (i : ℕ). Laying (ends 0 (values_at off (drop base s) cs)) oldo 1 oo' (at + n) (ends (total + i) (values_at off (drop base s) (drop (at + n) cs))))
            (sym step) (row_ended q r (drop base s) within-data total c.ended
            (w ∙ ap (λ (i : ℕ). over_at (at + 1) (map (λ j. total + (off (suc j) - i)) (from a n)) oo) ex));
      }

-- one element stored at the front, and what is laid behind it
pub first_then : (d : List ℕ) (x : ℕ) (g : List ℕ) → 1 ≤ length d → over_at 1 g (set d 0 x) ≡ over (x ∷ g) d
first_then d x g h = ap (over_at 1 g) (over_store [] d 0 x refl (omega arith)) ∙ over_again (x ∷ []) g d 1 refl

-- ---- the cells of a row, one by one: f of i of n numbers from a on

pub record Images (f : ℕ → ℕ) (d : List ℕ) (to a n : ℕ) (out : List ℕ) (i : ℕ) : Type 0 where
  pub laid : Laying (map f (from a n)) d to out i (map f (from (a + i) (n - i)))

pub images_begin : (f : ℕ → ℕ) (d : List ℕ) (to a n : ℕ) → to + n ≤ length d → Images f d to a n d 0
images_begin f d to a n h = record {
  laid = laying_is (laying_begins (map f (from a n)) d to (omega (arith, length-map (from a n) f, length_from_lem a n)))
      (ap₂ (λ (x y : ℕ). map f (from x y)) (sym (add-zero a)) (sym (sub-zero n)));
}

module _ {f : ℕ → ℕ} {d : List ℕ} {to a n : ℕ} {out : List ℕ} {i : ℕ} (l : Images f d to a n out i) where
  pub images_same : length out ≡ length d
  images_same = laying_same (map f (from a n)) d to out i (map f (from (a + i) (n - i))) l.laid

  pub images_end : n ≤ i → out ≡ over_at to (map f (from a n)) d
  images_end h = let e : n - i ≡ 0 = omega arith in laying_ends (map f (from a n)) d to out i (laying_is l.laid (ap (λ (k : ℕ). map f (from (a + i) k)) e))

  module _ (h : i < n) where
    images_next : map f (from (a + i) (n - i)) ≡ f (a + i) ∷ map f (from (a + (i + 1)) (n - (i + 1)))
    images_next =
        let e : n - i ≡ suc (n - (i + 1)) = omega arith in
        let q : suc (a + i) ≡ a + (i + 1) = omega arith in
        ap (λ (k : ℕ). map f (from (a + i) k)) e ∙ ap (λ (k : ℕ). f (a + i) ∷ map f (from k (n - (i + 1)))) q

    pub images_room : to + i < length out
    images_room = laying_room (map f (from a n)) d to out i (f (a + i)) (map f (from (a + (i + 1)) (n - (i + 1)))) (laying_is l.laid images_next)

    pub images_more : {x : ℕ} → x ≡ f (a + i) → Images f d to a n (set out (to + i) x) (i + 1)
    images_more {x} e = record {
      laid = laying_store (map f (from a n)) d to out i x (map f (from (a + (i + 1)) (n - (i + 1))))
          (laying_is l.laid (images_next ∙ ap (λ (k : ℕ). k ∷ map f (from (a + (i + 1)) (n - (i + 1)))) (sym e)));
    }
