-- What the loops over cells keep: the cells drawn so far lie in the outputs, and those that are left are drawn from the state.
-- Assumes nothing.
use mathlib.Core.Path.{◌≡◌, refl, sym, ap, ap₂, ◌∙◌, subst}
use Prim.Native.Nat.{ℕ, zero, suc, ◌+◌, ◌-◌, ◌*◌, ◌≤◌, ◌<◌}
use native.Mathlib.Nat.{zero-add, mul-le-mul}
use native.Mathlib.Numerals.{unary_clauses}
use native.Mathlib.Omega.{arith}
use mathlib.Core.List.{List, [], ◌∷◌, ◌++◌}
use lib.ListN.{length, set, replicate, length-replicate, length-map, length-append}
use Rattle.array.specs.Kind.{Form}
use Rattle.array.specs.Limits.{most_size, most_cells}
use Rattle.array.specs.Lists.{All, joined}
use Rattle.array.specs.Offsets.{ends, offsets_of}
use Rattle.array.specs.Cells.{Cell, leaf}
use Rattle.array.specs.Content.{masks_of, leaves}
use Rattle.array.specs.Buffers.{over, over_at}
use Rattle.array.proofs.Lists.{All-map, All-image}
use Rattle.array.proofs.Offsets.{length-ends}
use Rattle.array.proofs.Sizes.{OfSize}
use Rattle.array.proofs.LayoutLaws.{length-masks_of, layout_values_ok}
use Rattle.array.proofs.Over.{over-length}
use Rattle.array.proofs.Laying.{Laying, laying_begins, laying_is, laying_same, laying_part, laying_store, laying_ends}
use Rattle.load.specs.Generator.{Drew}
use Rattle.load.specs.Load.{draw_cell, draw_cells}
use Rattle.load.proofs.Drawn.{DrawnCell, drawn_cells, drawn_count, drawn_total}
use Rattle.generate.specs.Cells.{set_masks, column, sized, lengthy, cells_from, bytes_from}
use Rattle.generate.specs.declared.loads.Load.{Load}
use Rattle.generate.specs.Loads.{bytes_of}
use Rattle.generate.specs.Room.{Column, Limited}
use Rattle.generate.proofs.Drawing.{next_of, Falls, drawn}
use Rattle.generate.proofs.Columns.{column-length, columns, planes_laid}

-- the value bytes of n cells
abbrev pub values_from : Form → (d n s : ℕ) → List ℕ
values_from f d n s = joined (leaves d (cells_from f d n s))

-- products of the limits
pub planes_small : {d n : ℕ} → Limited d n → d * n ≤ 262144
unfolding most_cells
planes_small l = omega (arith, mul-le-mul l.shallow l.few)

-- zeros over a list leave its length
pub zeros_length : (m : ℕ) (l : List ℕ) → m ≤ length l → {filled : List ℕ} → filled ≡ over (replicate m 0) l → length filled ≡ length l
zeros_length m l h e = ap length e ∙ over-length (replicate m 0) l (omega (arith, length-replicate {A = ℕ} m 0))

pub bytes_small : {d n : ℕ} → Limited d n → {size : ℕ} → size ≤ most_size → n * size ≤ 4194304
unfolding most_cells
bytes_small l h = omega (arith, mul-le-mul l.few h)

-- the next of the cells that are left
pub next_cells : (f : Form) (d : ℕ) {n at : ℕ} (s : ℕ) → at < n
    → cells_from f d (n - at) s ≡ (draw_cell f d s).made ∷ cells_from f d (n - (at + 1)) (draw_cell f d s).state
unfolding draw_cells
next_cells f d s h = ap (λ (j : ℕ). cells_from f d j s) (next_of h)

pub no_cells : (f : Form) (d : ℕ) {n at : ℕ} (s : ℕ) → n ≤ at → cells_from f d (n - at) s ≡ []
unfolding draw_cells
no_cells f d {n} {at} s h = let none : n - at ≡ 0 = omega arith in ap (λ (j : ℕ). cells_from f d j s) none

cells_fall : (f : Form) (d n s : ℕ) → All (Falls d) (cells_from f d n s)
unfolding draw_cells
cells_fall f d zero s = tt
cells_fall f d (suc n) s = ((drawn f d s).falls, cells_fall f d n (draw_cell f d s).state)

-- cells before `at` are drawn, and have `sum` bytes
pub record Counting (f : Form) (d n s₀ s at sum : ℕ) : Type 0 where
  pub within : at ≤ n
  pub total : sum + bytes_from f d (n - at) s ≡ bytes_from f d n s₀

pub count_begins : (f : Form) (d n s : ℕ) → Counting f d n s s 0 0
count_begins f d n s = record { within = omega arith; total = simp (unary_clauses, zero-add) }

module _ {f : Form} {d n s₀ s at sum : ℕ} (c : Counting f d n s₀ s at sum) where
  next_total : at < n → sum + (length (leaf d (draw_cell f d s).made) + bytes_from f d (n - (at + 1)) (draw_cell f d s).state) ≡ bytes_from f d n s₀
  next_total h =
      let r : Drew (Cell d) = draw_cell f d s in
      omega (
        arith,
        c.total,
        ap (λ (cs : List (Cell d)). length (joined (leaves d cs))) (next_cells f d s h),
        length-append (leaf d r.made) (values_from f d (n - (at + 1)) r.state),
      )

  pub count_fits : at < n → sum + length (leaf d (draw_cell f d s).made) ≤ bytes_from f d n s₀
  count_fits h = omega (arith, next_total h)

  pub count_more : at < n → {m t : ℕ} → m ≡ length (leaf d (draw_cell f d s).made) → t ≡ (draw_cell f d s).state → Counting f d n s₀ t (at + 1) (sum + m)
  count_more h {m} em et = record {
    within = omega arith;
    total = ap (λ (x : ℕ). sum + m + bytes_from f d (n - (at + 1)) x) et ∙ omega (arith, next_total h);
  }

  pub count-ends : n ≤ at → sum ≡ bytes_from f d n s₀
  count-ends h = omega (arith, c.total, ap (λ (cs : List (Cell d)). length (joined (leaves d cs))) (no_cells f d s h))

-- and they lie in masks and values, which were m₀ and v₀
pub record Making (f : Form) (d n s₀ : ℕ) (m₀ v₀ m v : List ℕ) (s at to : ℕ) : Type 0 where
  pub counted : Counting f d n s₀ s at to
  pub room : d * n ≤ length m₀
  pub same : length m ≡ length m₀
  pub planes : columns d n at (cells_from f d (n - at) s) m ≡ columns d n 0 (cells_from f d n s₀) m₀
  pub laid : Laying (values_from f d n s₀) v₀ 0 v to (values_from f d (n - at) s)

pub make_begins : (f : Form) (d n s : ℕ) (m v : List ℕ) → d * n ≤ length m → bytes_from f d n s ≤ length v → Making f d n s m v m v s 0 0
make_begins f d n s m v h l = record {
  counted = count_begins f d n s;
  room = h;
  same = refl;
  planes = simp unary_clauses;
  laid = laying_is (laying_begins (values_from f d n s) v 0 (omega arith)) (simp unary_clauses);
}

module _ {f : Form} {d n s₀ : ℕ} {m₀ v₀ m v : List ℕ} {s at to : ℕ} (c : Making f d n s₀ m₀ v₀ m v s at to) where
  pub make_column : Limited d n → at < n → Column n at d m
  unfolding most_cells
  make_column l h = record { within = omega (arith, c.room, c.same); small = omega (arith, planes_small l, l.few) }

  pub make_same : length v ≡ length v₀
  make_same = laying_same (values_from f d n s₀) v₀ 0 v to (values_from f d (n - at) s) c.laid

  pub make_room : at < n → to + length (leaf d (draw_cell f d s).made) ≤ length v
  make_room h = omega (arith, count_fits c.counted h, c.laid.room, make_same)

  pub make_more : at < n → {m' v' : List ℕ} {k t : ℕ} → m' ≡ column n at (set_masks d (draw_cell f d s).made) m → v' ≡ over_at to (leaf d (draw_cell f d s).made) v
      → k ≡ length (leaf d (draw_cell f d s).made) → t ≡ (draw_cell f d s).state → Making f d n s₀ m₀ v₀ m' v' t (at + 1) (to + k)
  make_more h {m'} {v'} {k} {t} em ev ek et = record {
    counted = count_more c.counted h ek et;
    room = c.room;
    same = ap length em ∙ column-length n at (set_masks d (draw_cell f d s).made) m ∙ c.same;
    planes = ap₂ (λ (x : List ℕ) (y : ℕ). columns d n (at + 1) (cells_from f d (n - (at + 1)) y) x) em et
        ∙ sym (ap (λ (cs : List (Cell d)). columns d n at cs m) (next_cells f d s h)) ∙ c.planes;
    laid = laying_part (values_from f d n s₀) v₀ 0 v to (leaf d (draw_cell f d s).made) (values_from f d (n - (at + 1)) t)
        (laying_is c.laid (ap (λ (cs : List (Cell d)). joined (leaves d cs)) (next_cells f d s h)
        ∙ ap (λ (y : ℕ). leaf d (draw_cell f d s).made ++ values_from f d (n - (at + 1)) y) (sym et)))
        v' (ev ∙ ap (λ (j : ℕ). over_at j (leaf d (draw_cell f d s).made) v) (sym (zero-add to))) (to + k) (ap (λ (j : ℕ). to + j) ek);
  }

  -- the masks were zeros over what is lent
  pub make_masks : n ≤ at → (lent : List ℕ) → m₀ ≡ over (replicate (d * n) 0) lent → d * n ≤ length lent → m ≡ over (masks_of d (cells_from f d n s₀)) lent
  make_masks h lent e l =
      sym (ap (λ (cs : List (Cell d)). columns d n at cs m) (no_cells f d s h)) ∙ c.planes ∙ ap (columns d n 0 (cells_from f d n s₀)) e
      ∙ planes_laid n d (cells_from f d n s₀) lent (drawn_count f d n s₀) l (cells_fall f d n s₀)

  pub make_values : n ≤ at → v ≡ over (values_from f d n s₀) v₀
  make_values h = laying_ends (values_from f d n s₀) v₀ 0 v to (laying_is c.laid (ap (λ (cs : List (Cell d)). joined (leaves d cs)) (no_cells f d s h)))

-- and where each of them begins lies in offsets, which were o₀
abbrev starts_from : Form → (d n s to : ℕ) → List ℕ
starts_from f d n s to = to ∷ ends to (leaves d (cells_from f d n s))

pub record Placing (f : Form) (d n s₀ : ℕ) (o₀ o : List ℕ) (s at to : ℕ) : Type 0 where
  pub within : at ≤ n
  pub laid : Laying (offsets_of (leaves d (cells_from f d n s₀))) o₀ 0 o at (starts_from f d (n - at) s to)

pub count_offsets : (f : Form) (d n s : ℕ) → length (offsets_of (leaves d (cells_from f d n s))) ≡ n + 1
count_offsets f d n s =
    let cs : List (Cell d) = cells_from f d n s in
    omega (arith, length-ends 0 (leaves d cs), length-map cs (leaf d), drawn_count f d n s)

pub place_begins : (f : Form) (d n s : ℕ) (o : List ℕ) → n + 1 ≤ length o → Placing f d n s o o s 0 0
place_begins f d n s o h = record {
  within = omega arith;
  laid = laying_is (laying_begins (offsets_of (leaves d (cells_from f d n s))) o 0 (omega (arith, count_offsets f d n s))) (simp unary_clauses);
}

module _ {f : Form} {d n s₀ : ℕ} {o₀ o : List ℕ} {s at to : ℕ} (c : Placing f d n s₀ o₀ o s at to) where
  abbrev all_offsets : List ℕ
  all_offsets = offsets_of (leaves d (cells_from f d n s₀))

  -- the next one is stored
  stored : Laying all_offsets o₀ 0 (set o at to) (at + 1) (ends to (leaves d (cells_from f d (n - at) s)))
  stored =
      let rest : List ℕ = ends to (leaves d (cells_from f d (n - at) s)) in
      subst (λ (j : ℕ). Laying all_offsets o₀ 0 (set o j to) (at + 1) rest) (zero-add at) (laying_store all_offsets o₀ 0 o at to rest c.laid)

  pub place_more : at < n → {k t : ℕ} → k ≡ length (leaf d (draw_cell f d s).made) → t ≡ (draw_cell f d s).state → Placing f d n s₀ o₀ (set o at to) t (at + 1) (to + k)
  place_more h ek et = record {
    within = omega arith;
    laid = laying_is stored (ap (λ (cs : List (Cell d)). ends to (leaves d cs)) (next_cells f d s h)
        ∙ ap₂ (λ (j y : ℕ). starts_from f d (n - (at + 1)) y (to + j)) (sym ek) (sym et));
  }

  pub place_ends : at ≡ n → set o n to ≡ over all_offsets o₀
  place_ends h =
      ap (λ (j : ℕ). set o j to) (sym h)
      ∙ laying_ends all_offsets o₀ 0 (set o at to) (at + 1) (laying_is stored (ap (λ (cs : List (Cell d)). ends to (leaves d cs)) (no_cells f d s (omega arith))))

-- ---- how much is stored

pub count_masks : (f : Form) (d n s : ℕ) → length (masks_of d (cells_from f d n s)) ≡ d * n
count_masks f d n s = length-masks_of d (cells_from f d n s) ∙ ap (λ (m : ℕ). d * m) (drawn_count f d n s)

pub count_values : (size d n s : ℕ) → bytes_from (sized size) d n s ≡ n * size
count_values size d n s =
    let cs : List (Cell d) = cells_from (sized size) d n s in
    let each : All (λ c. OfSize (sized size) (leaf d c)) cs = All-map (DrawnCell (sized size) d) (λ c. OfSize (sized size) (leaf d c)) (λ c r. r.value.sized) cs (drawn_cells (sized size) d n s) in
    (layout_values_ok (sized size) n d cs (drawn_count (sized size) d n s) (All-image (OfSize (sized size)) (leaf d) cs each)).0

pub ragged_small : {d n : ℕ} → Limited d n → (s : ℕ) → bytes_from lengthy d n s ≤ 524288
unfolding most_cells
ragged_small {d} {n} l s = omega (arith, drawn_total lengthy d n s, l.few)

-- eight bytes a cell are always enough
pub ragged_total : (l : Load) → bytes_of lengthy l ≤ 8 * l.n
ragged_total l = omega (arith, drawn_total lengthy l.depth l.n l.first.state)
