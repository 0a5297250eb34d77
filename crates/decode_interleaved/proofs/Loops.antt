-- The two loops over the stored cells, by what is left of the string: the sum so far; the value bytes and the offsets written so far.
-- Assumes nothing.
use mathlib.Core.Path.{◌≡◌, refl, sym, ap, ap₂, ◌∙◌, subst}
use Prim.Native.Nat.{ℕ, suc, ◌+◌, ◌-◌, ◌<◌, ◌≤◌}
use native.Mathlib.Omega.{arith}
use native.Mathlib.Nat.{zero-add, sub-zero}
use mathlib.Core.List.{List, [], ◌∷◌, ◌++◌}
use lib.ListN.{length, take, drop, set, length-append, length-drop}
use lib.Seq.{length-take-le}
use Rattle.array.specs.Answer.{Answer, gives, refuses, and_then, map_answer}
use Rattle.array.specs.Lists.{joined}
use Rattle.array.specs.Offsets.{ends, offsets_of}
use Rattle.array.specs.Cells.{Value}
use Rattle.array.specs.Buffers.{over}
use Rattle.array.proofs.Offsets.{length-ends}
use Rattle.array.proofs.Laying.{Laying, laying_begins, laying_same, laying_ends, laying_store, laying_is, laying_room}
use Rattle.codec.specs.Interleaved.{interleaved_cells}
use Rattle.interleaved_cells.specs.Cell.{Copied}
use Rattle.codec.proofs.Older.{length_read}
use Rattle.decode_interleaved.specs.Walk.{total_of, stored_cells, walk_answer, found, Found}
use Rattle.decode_interleaved.proofs.Steps.{length_at, field_past, cell_past, cell_next, Cell, cell_at, cells_room}
use Rattle.interleaved_cells.proofs.Placing.{Placing, placing_begins, placing_is, placing_left, placing_ends, placing_cell}

-- ---- walk_cells

-- `sum` bytes are found, and `left` cells from `at` on are left
pub record Walking (n : ℕ) (s : List ℕ) (left at sum : ℕ) : Type 0 where
  pub small : sum ≤ at
  pub whole : walk_answer n s ≡ map_answer (λ vs. sum + total_of vs) (interleaved_cells left (drop at s))

map_same : (f g : List Value → ℕ) → ((vs : List Value) → f vs ≡ g vs) → (a : Answer (List Value)) → map_answer f a ≡ map_answer g a
map_same f g e (gives vs) = ap gives (e vs)
map_same f g e (refuses k) = refl

pub walk_begins : (n : ℕ) (s : List ℕ) → Walking n s n 4 0
walk_begins n s = record { small = omega arith; whole = map_same total_of (λ vs. 0 + total_of vs) (λ vs. omega arith) (stored_cells n s) }

pub walk_is : {n left at sum left' at' sum' : ℕ} {s : List ℕ} → Walking n s left at sum → left' ≡ left → at' ≡ at → sum' ≡ sum → Walking n s left' at' sum'
walk_is {n} {left} {at} {sum} {left'} {at'} {sum'} {s} w e f g =
    subst (λ (k : ℕ). Walking n s k at' sum') (sym e) (subst (λ (k : ℕ). Walking n s left k sum') (sym f) (subst (Walking n s left at) (sym g) w))

module _ {n : ℕ} {s : List ℕ} {left at sum : ℕ} (w : Walking n s left at sum) where
  -- the walk ends with all cells found
  pub walk_ends : left ≤ 0 → gives sum ≡ walk_answer n s
  unfolding interleaved_cells
  walk_ends h =
      let e : left ≡ 0 = omega arith in
      sym (w.whole ∙ ap (λ (k : ℕ). map_answer (λ vs. sum + total_of vs) (interleaved_cells k (drop at s))) e ∙ ap gives (omega arith))

  module _ (h : 0 < left) where
    one : left ≡ suc (left - 1)
    one = omega arith

    past : interleaved_cells (suc (left - 1)) (drop at s) ≡ refuses 11 → refuses 11 ≡ walk_answer n s
    past e = sym (w.whole ∙ ap (map_answer (λ vs. sum + total_of vs)) (ap (λ (k : ℕ). interleaved_cells k (drop at s)) one ∙ e))

    pub walk_field_past : length s - at < 4 → refuses 11 ≡ walk_answer n s
    walk_field_past f = past (field_past s at (left - 1) f)

    module _ (f : 4 ≤ length s - at) {v : ℕ} (e : v ≡ length_at s at) where
      pub walk_cell_past : length s - (at + 4) < v → refuses 11 ≡ walk_answer n s
      walk_cell_past g = past (cell_past s at (left - 1) (omega arith) (omega arith))

      pub walk_more : v ≤ length s - (at + 4) → Walking n s (left - 1) (at + 4 + v) (sum + v)
      walk_more g = record {
        small = omega (arith, w.small);
        whole =
            w.whole ∙ ap (map_answer (λ vs. sum + total_of vs)) (ap (λ (k : ℕ). interleaved_cells k (drop at s)) one ∙ cell_next s at (left - 1) (omega arith) (omega arith))
            ∙ go (interleaved_cells (left - 1) (drop (at + 4 + length_at s at) s))
            ∙ ap (λ (k : ℕ). map_answer (λ vs. (sum + v) + total_of vs) (interleaved_cells (left - 1) (drop (at + 4 + k) s))) (sym e);
      }
        where
          cell : List ℕ
          cell = take (length_at s at) (drop (at + 4) s)

          long : length cell ≡ length_at s at
          long = length-take-le (length_at s at) (drop (at + 4) s) (omega (arith, length-drop (at + 4) s))

          go : (a : Answer (List Value)) → map_answer (λ vs. sum + total_of vs) (and_then a (λ vs. gives (cell ∷ vs))) ≡ map_answer (λ vs. (sum + v) + total_of vs) a
          go (gives vs) = ap gives (omega (arith, length-append cell (joined vs), long))
          go (refuses k) = refl

      -- an empty cell
      pub walk_none : v ≤ 0 → Walking n s (left - 1) (at + 4) sum
      walk_none z =
          let w' : Walking n s (left - 1) (at + 4 + v) (sum + v) = walk_more (omega arith) in
          let same_sum : sum + v ≡ sum = omega arith in
          let same_place : at + 4 + v ≡ at + 4 = omega arith in
          record {
            small = omega (arith, w.small);
            whole = w'.whole ∙ ap₂ (λ (k m : ℕ). map_answer (λ vs. k + total_of vs) (interleaved_cells (left - 1) (drop m s))) same_sum same_place;
          }

-- ---- the cells that are left, where the walk refused nothing

-- the next of them
pub next_cell : (s : List ℕ) (left at : ℕ) (vs : List Value) → interleaved_cells left (drop at s) ≡ gives vs → 0 < left → Cell s at (left - 1) vs
next_cell s left at vs e h =
    let one : left ≡ suc (left - 1) = omega arith in
    cell_at s at (left - 1) vs (ap (λ (k : ℕ). interleaved_cells k (drop at s)) (sym one) ∙ e)

-- none of them
pub no_cell : (s : List ℕ) (left at : ℕ) (vs : List Value) → interleaved_cells left (drop at s) ≡ gives vs → left ≤ 0 → vs ≡ []
unfolding interleaved_cells
no_cell s left at vs e h =
    let none : left ≡ 0 = omega arith in
    let z : gives [] ≡ gives vs = ap (λ (k : ℕ). interleaved_cells k (drop at s)) (sym none) ∙ e in
    cc

-- ---- copy_cells

-- i offsets lie in what was os₀, the values up to `to` in what was vs₀, and the cells from `at` on are left
pub record Copying (n : ℕ) (s vs₀ vs os₀ os : List ℕ) (i at to : ℕ) : Type 0 where
  pub cells : List Value
  pub within : i ≤ n
  pub stored : interleaved_cells (n - i) (drop at s) ≡ gives cells
  pub placed : Placing (joined (found n s)) vs₀ vs to (joined cells)
  pub laid : Laying (offsets_of (found n s)) os₀ 0 os i (to ∷ ends to cells)

pub copy_begins : {n : ℕ} {s vs₀ os₀ : List ℕ} → Found n s → total_of (found n s) ≤ length vs₀ → n + 1 ≤ length os₀ → Copying n s vs₀ vs₀ os₀ os₀ 0 4 0
copy_begins {n} {s} {vs₀} {os₀} e h g = record {
  cells = found n s;
  within = omega arith;
  stored = ap (λ (k : ℕ). interleaved_cells k (drop 4 s)) (sub-zero n) ∙ e;
  placed = placing_begins (joined (found n s)) vs₀ h;
  laid = laying_begins (offsets_of (found n s)) os₀ 0 (omega (arith, length-ends 0 (found n s), length_read n (drop 4 s) (found n s) e));
}

pub copy_is : {n i at to at' to' : ℕ} {s vs₀ vs vs' os₀ os : List ℕ} → Copying n s vs₀ vs os₀ os i at to
    → vs' ≡ vs → at' ≡ at → to' ≡ to → Copying n s vs₀ vs' os₀ os i at' to'
copy_is {n} {i} {at} {to} {at'} {to'} {s} {vs₀} {vs} {vs'} {os₀} {os} c e f g =
    subst (λ (l : List ℕ). Copying n s vs₀ l os₀ os i at' to') (sym e)
    (subst (λ (k : ℕ). Copying n s vs₀ vs os₀ os i k to') (sym f) (subst (Copying n s vs₀ vs os₀ os i at) (sym g) c))

module _ {n : ℕ} {s vs₀ vs os₀ os : List ℕ} {i at to : ℕ} (c : Copying n s vs₀ vs os₀ os i at to) where
  pub copy_same : length os ≡ length os₀
  copy_same = laying_same (offsets_of (found n s)) os₀ 0 os i _ c.laid

  pub copy_room : i < length os
  copy_room = omega (arith, laying_room (offsets_of (found n s)) os₀ 0 os i _ _ c.laid)

  -- the next offset
  offset_next : Laying (offsets_of (found n s)) os₀ 0 (set os i to) (i + 1) (ends to c.cells)
  offset_next =
      subst (λ (k : ℕ). Laying (offsets_of (found n s)) os₀ 0 (set os k to) (i + 1) (ends to c.cells)) (zero-add i)
      (laying_store (offsets_of (found n s)) os₀ 0 os i to (ends to c.cells) c.laid)

  module _ (h : n ≤ i) where
    none : c.cells ≡ []
    none = no_cell s (n - i) at c.cells c.stored (omega arith)

    pub copy_values_end : vs ≡ over (joined (found n s)) vs₀
    copy_values_end = placing_ends (placing_is c.placed (ap joined none))

    pub copy_offsets_end : i ≡ n → set os n to ≡ over (offsets_of (found n s)) os₀
    copy_offsets_end e =
        ap (λ (k : ℕ). set os k to) (sym e)
        ∙ laying_ends (offsets_of (found n s)) os₀ 0 (set os i to) (i + 1) (laying_is offset_next (ap (ends to) none))

  module _ (h : i < n) where
    cell : Cell s at (n - i - 1) c.cells
    cell = next_cell s (n - i) at c.cells c.stored (omega arith)

    pub copy_field : at + 4 ≤ length s
    copy_field = omega (arith, cell.fits)

    module _ (v : ℕ) (e : v ≡ length_at s at) where
      pub copy_cell : at + 4 + v ≤ length s
      copy_cell = omega (arith, cell.fits)

      abbrev part : List ℕ
      part = take v (drop (at + 4) s)

      long : length part ≡ v
      long = length-take-le v (drop (at + 4) s) (omega (arith, length-drop (at + 4) s, copy_cell))

      whole : c.cells ≡ part ∷ cell.others
      whole = cell.whole ∙ ap (λ (k : ℕ). take k (drop (at + 4) s) ∷ cell.others) (sym e)

      here : Placing (joined (found n s)) vs₀ vs to (part ++ joined cell.others)
      here = placing_is c.placed (ap joined whole)

      -- the offset is stored, and the values stand to the end of the cell
      goes_on : {vs' : List ℕ} → Placing (joined (found n s)) vs₀ vs' (to + v) (joined cell.others) → Copying n s vs₀ vs' os₀ (set os i to) (i + 1) (at + 4 + v) (to + v)
      goes_on p =
          let one : n - i - 1 ≡ n - (i + 1) = omega arith in
          record {
            cells = cell.others;
            within = omega arith;
            stored = ap₂ (λ (m k : ℕ). interleaved_cells m (drop (at + 4 + k) s)) (sym one) e ∙ cell.after;
            placed = p;
            laid = laying_is offset_next (ap (ends to) whole ∙ ap (λ (k : ℕ). (to + k) ∷ ends (to + k) cell.others) long);
          }

      -- an empty cell
      pub copy_none : v ≤ 0 → Copying n s vs₀ vs os₀ (set os i to) (i + 1) (at + 4) to
      copy_none z =
          let nothing : part ≡ [] = ap (λ (k : ℕ). take k (drop (at + 4) s)) (zero_of z) in
          subst (λ (k : ℕ). Copying n s vs₀ vs os₀ (set os i to) (i + 1) k to) (omega arith)
          (subst (λ (k : ℕ). Copying n s vs₀ vs os₀ (set os i to) (i + 1) (at + 4 + v) k) (omega arith)
          (goes_on (subst (λ (k : ℕ). Placing (joined (found n s)) vs₀ vs k (joined cell.others)) (omega arith)
          (placing_is here (ap (λ (l : List ℕ). l ++ joined cell.others) nothing)))))
        where
          zero_of : v ≤ 0 → v ≡ 0
          zero_of y = omega arith

      module _ {sum : ℕ} (t : sum ≡ total_of (found n s)) where
        -- room for the cell among the values, and so much behind it among the bytes
        pub copy_fits : (to ≤ sum) × (v ≤ sum - to)
        copy_fits =
            let all : to + length (part ++ joined cell.others) ≡ sum = placing_left here ∙ sym t in
            (omega arith, omega (arith, length-append part (joined cell.others), long))

        pub copy_source : at + 4 + (sum - to) ≤ length s
        copy_source =
            omega (arith, cells_room (n - i) (drop at s) c.cells c.stored, length-drop at s, placing_left c.placed, copy_field)

        pub copy_more : {vs' : List ℕ} → Copied v (sum - to) (drop (at + 4) s) to vs vs' → Copying n s vs₀ vs' os₀ (set os i to) (i + 1) (at + 4 + v) (to + v)
        copy_more {vs'} f = goes_on (placing_cell here (omega (arith, length-drop (at + 4) s, copy_cell)) (omega (arith, copy_fits, t)) f)
