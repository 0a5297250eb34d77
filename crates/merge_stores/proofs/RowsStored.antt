-- Storing the rows of a subset, whatever the width of a cell: what holds at the head of the loop, and a turn of it.
-- Assumes nothing.
use mathlib.Core.Path.{◌≡◌, refl, sym, ap, ap₂, ◌∙◌}
use Prim.Native.Nat.{ℕ, ◌+◌, ◌-◌, ◌*◌, ◌≤◌}
use native.Mathlib.Nat.{mul-le-mul_right, add-mul}
use native.Mathlib.Omega.{arith}
use mathlib.Core.List.{List, ◌++◌}
use lib.ListN.{length, take, drop, length-drop}
use lib.Seq.{paste, length-paste, drop-drop}
use Rattle.array.specs.Lists.{from}
use Rattle.array.specs.Buffers.{over_at}
use Rattle.array.specs.Shape.{volume}
use Rattle.array.specs.Places.{fixed_at, Rises}
use Rattle.array.proofs.Over.{paste_over}
use Rattle.array.proofs.Places.{fixed_rises}
use Rattle.subset.specs.Walk.{row_of, Left, RowAt}
use Rattle.subset.proofs.Rows.{left-ends}
use Rattle.merge_stores.specs.Scatter.{scatter, places}
use Rattle.merge_stores.proofs.Scattering.{scatter_next, places-append, places_run}

-- the places of the cells that are left begin with those of the next row
row_places : {off : ℕ → ℕ} {sh ls cs : List ℕ} {cells at a n : ℕ} → RowAt sh ls cs cells at a n → Rises off (volume sh)
    → places off (drop at cs) ≡ from (off a) (off (a + n) - off a) ++ places off (drop (at + n) cs)
row_places {off} {cs = cs} {at = at} {a = a} {n = n} q s =
    ap (places off) q.next
    ∙ places-append off (from a n) (drop (at + n) cs)
    ∙ ap (λ (r : List ℕ). r ++ places off (drop (at + n) cs)) (places_run s a n q.inside)

-- the rows before `at` are stored, `done` bytes of the chunk

pub record Store (off : ℕ → ℕ) (cs xs d o : List ℕ) (cells n at done : ℕ) : Type 0 where
  pub geo : Left cs cells n at
  pub long : length o ≡ length d
  pub same : scatter d (places off cs) xs ≡ scatter o (places off (drop at cs)) (drop done xs)

pub store_begins : (off : ℕ → ℕ) (xs d : List ℕ) {cs : List ℕ} {cells n : ℕ} → Left cs cells n 0 → Store off cs xs d d cells n 0 0
store_begins off xs d g = record { geo = g; long = refl; same = refl }

module _ {off : ℕ → ℕ} {cs xs d o : List ℕ} {cells m at done : ℕ} (c : Store off cs xs d o cells m at done) where
  pub store_ends : cells ≤ at → o ≡ scatter d (places off cs) xs
  store_ends h = sym (c.same ∙ ap (λ (r : List ℕ). scatter o (places off r) (drop done xs)) (left-ends c.geo h))

  -- the row's bytes lie at `to`, w of them, and go on `done'` in all
  module _ {sh ls : List ℕ} {a n : ℕ} (q : RowAt sh ls cs cells at a n) (s : Rises off (volume sh)) (to w done' : ℕ) (eo : to ≡ off a) (ew : off (a + n) ≡ off a + w) (ed : done' ≡ done + w)
      (room : to + w ≤ length d) (enough : done' ≤ length xs) {o' : List ℕ} (p : o' ≡ over_at to (take w (drop done xs)) o) where
    pub store_more : Store off cs xs d o' cells (row_of ls) (at + n) done'
    store_more =
        let l : w ≤ length (drop done xs) = omega (arith, length-drop done xs) in
        let r : to + w ≤ length o = omega (arith, c.long) in
        let ew' : off (a + n) - off a ≡ w = omega arith in
        let e : o' ≡ paste o to (drop done xs) w = p ∙ sym (paste_over o to (drop done xs) w (omega arith) l) in
        let next : places off (drop at cs) ≡ from to w ++ places off (drop (at + n) cs) =
        row_places q s ∙ ap₂ (λ (x y : ℕ). from x y ++ places off (drop (at + n) cs)) (sym eo) ew' in
        record {
          geo = q.rest;
          long = ap length e ∙ length-paste o to (drop done xs) w r l ∙ c.long;
          same = c.same ∙ ap (λ (ps : List ℕ). scatter o ps (drop done xs)) next
              ∙ scatter_next o to w (places off (drop (at + n) cs)) (drop done xs) r l
              ∙ ap₂ (λ (x k : List ℕ). scatter x (places off (drop (at + n) cs)) k) (sym e) (drop-drop w done xs ∙ ap (λ (k : ℕ). drop k xs) (sym ed));
        }

-- ---- cells of one width

pub fixed_room : (base size v a n len : ℕ) → a + n ≤ v → base + v * size ≤ len → base + a * size + n * size ≤ len
fixed_room base size v a n len h l = omega (arith, mul-le-mul_right {m = a + n} {n = v} size h, add-mul a n size)

module _ (base size : ℕ) {cs : List ℕ} (src : List ℕ) (first : ℕ) {d o : List ℕ} {cells m at : ℕ} (c : Store (fixed_at base size) cs (drop first src) d o cells m at (at * size))
    {sh ls : List ℕ} {a n : ℕ} (q : RowAt sh ls cs cells at a n) (room : base + a * size + n * size ≤ length d) (enough : first + at * size + n * size ≤ length src) {o' : List ℕ}
    (p : o' ≡ over_at (base + a * size) (take (n * size) (drop (first + at * size) src)) o) where
  pub fixed_more : Store (fixed_at base size) cs (drop first src) d o' cells (row_of ls) (at + n) ((at + n) * size)
  fixed_more =
      store_more c q (fixed_rises base size (volume sh)) (base + a * size) (n * size) ((at + n) * size) refl
      (omega (arith, add-mul a n size)) (add-mul at n size) room (omega (arith, add-mul at n size, length-drop first src))
      (p ∙ ap (λ (x : List ℕ). over_at (base + a * size) (take (n * size) x) o) (sym (drop-drop (at * size) first src)))
