-- What copying the cells of a table keeps: those before `at` lie in the outputs, end to end.
-- Assumes nothing.
use mathlib.Core.Path.{◌≡◌, refl, sym, ap, ◌∙◌, subst}
use Prim.Native.Nat.{ℕ, suc, ◌+◌, ◌-◌, ◌≤◌, ◌<◌}
use native.Mathlib.Nat.{zero-add, add-zero}
use native.Mathlib.Numerals.{add-one}
use native.Mathlib.Omega.{arith}
use mathlib.Core.Logic.{◌⊎◌, inl, inr}
use mathlib.Core.Bool.{Bool, true, false, ◌||◌}
use mathlib.Core.List.{List, [], ◌∷◌, ◌++◌, map, append_assoc, append-nil}
use lib.ListN.{length, take, drop, set, length-append, length-drop, length-map}
use lib.Seq.{length-take-le, take_all, take-add, drop-drop}
use lib.Dec.{eqb}
use borrow.Author.Tests.{eqb-true}
use Rattle.array.specs.Lists.{from, joined}
use Rattle.array.specs.Offsets.{ends, offsets_of}
use Rattle.array.specs.Cells.{Value}
use Rattle.array.specs.Buffers.{over, over_at}
use Rattle.array.specs.Places.{sum}
use Rattle.array.proofs.Lists.{map-from, in_place_lem, length_from_lem}
use Rattle.array.proofs.Sums.{length-joined-map}
use Rattle.array.proofs.Offsets.{length-ends}
use Rattle.array.proofs.Laying.{Laying, laying_begins, laying_same, laying_left, laying_ends, laying_part, laying_store, laying_is}
use Rattle.table.specs.Table.{Table, start_of, length_of, bytes_of}
use Rattle.table_read.specs.Read.{values_of, InStore, CellsAsked}

-- ---- cells are as long as the table says

module _ {n : ℕ} {t : Table} (s : InStore n t) where
  pub bytes_long : (j : ℕ) → j < n → length (bytes_of t j) ≡ length_of t j
  bytes_long j h = length-take-le (length_of t j) (drop (start_of t j) t.store) (omega (arith, length-drop (start_of t j) t.store, s.placed j h))

  pub values_long : length (joined (values_of n t)) ≡ sum t.lengths
  values_long =
      length-joined-map (bytes_of t) (from 0 n)
      ∙ ap sum (map-from (λ j. length (bytes_of t j)) (length_of t) 0 n (λ j h. bytes_long j (omega arith))
      ∙ ap (λ (m : ℕ). map (length_of t) (from 0 m)) (sym s.lengths_fit) ∙ in_place_lem 0 t.lengths)

pub offsets_long : (n : ℕ) (t : Table) → length (offsets_of (values_of n t)) ≡ n + 1
offsets_long n t = omega (arith, length-ends 0 (values_of n t), length-map (from 0 n) (bytes_of t), length_from_lem 0 n)

-- all of a list copied
pub whole_copied : (s d : List ℕ) {out : List ℕ} → out ≡ over_at 0 (take (length s) (drop 0 s)) d → out ≡ over s d
whole_copied s d e = e ∙ ap (λ (l : List ℕ). over l d) (take_all (length s) s (omega arith))

-- ---- cells copied, those that lie one behind another at once

-- the values of the cells from `at` on
abbrev values_from : ℕ → Table → ℕ → List Value
values_from n t at = map (bytes_of t) (from at (n - at))

-- what is still to be stored of the offsets, the next cell beginning at `to`
abbrev offsets_from : ℕ → Table → ℕ → ℕ → List ℕ
offsets_from n t at to = to ∷ ends to (values_from n t at)

-- bytes that are still to be copied for cells before `at`
abbrev waiting : Table → ℕ → ℕ → List ℕ
waiting t first size = take size (drop first t.store)

pub record Reading (n : ℕ) (t : Table) (v₀ o₀ v o : List ℕ) (at to first size : ℕ) : Type 0 where
  pub within : at ≤ n
  pub stored : first + size ≤ length t.store
  pub values : Laying (joined (values_of n t)) v₀ 0 v to (waiting t first size ++ joined (values_from n t at))
  pub offsets : Laying (offsets_of (values_of n t)) o₀ 0 o at (offsets_from n t at (to + size))

-- at the last cell
pub reading_ended : {n : ℕ} {t : Table} {v₀ o₀ v o : List ℕ} {at to first size : ℕ} → Reading n t v₀ o₀ v o at to first size → n ≤ at
    → Reading n t v₀ o₀ v o n to first size
reading_ended {n} {t} {v₀} {o₀} {v} {o} {to = to} {first = first} {size = size} r h =
    subst (λ (k : ℕ). Reading n t v₀ o₀ v o k to first size) (omega (arith, r.within)) r

from_zero : (n : ℕ) (t : Table) → values_of n t ≡ values_from n t 0
from_zero n t = let e : n ≡ n - 0 = omega arith in ap (λ (m : ℕ). map (bytes_of t) (from 0 m)) e

from_next : (n : ℕ) (t : Table) (at : ℕ) → at < n → values_from n t at ≡ bytes_of t at ∷ values_from n t (at + 1)
from_next n t at h =
    let e : n - at ≡ suc (n - (at + 1)) = omega arith in
    ap (λ (m : ℕ). map (bytes_of t) (from at m)) e ∙ ap (λ (k : ℕ). bytes_of t at ∷ map (bytes_of t) (from k (n - (at + 1)))) (sym (add-one at))

from_end : (n : ℕ) (t : Table) (at : ℕ) → n ≤ at → values_from n t at ≡ []
from_end n t at h = let e : n - at ≡ 0 = omega arith in ap (λ (m : ℕ). map (bytes_of t) (from at m)) e

-- a cell that goes on where the bytes before it end: one with none goes anywhere
abbrev pub GoesOn : Table → ℕ → ℕ → Type 0
GoesOn t at end = (length_of t at ≡ 0) ⊎ (start_of t at ≡ end)

pub goes_on : (t : Table) (at end : ℕ) → eqb (length_of t at) 0 || eqb (start_of t at) end ≡ true → GoesOn t at end
goes_on t at end e = go (eqb (length_of t at) 0) refl e
  where
    go : (b : Bool) → eqb (length_of t at) 0 ≡ b → b || eqb (start_of t at) end ≡ true → GoesOn t at end
    go true q e = inl (eqb-true (length_of t at) 0 q)
    go false q e = inr (eqb-true (start_of t at) end e)

wait_more : (t : Table) (at first size : ℕ) → GoesOn t at (first + size) → waiting t first size ++ bytes_of t at ≡ waiting t first (size + length_of t at)
wait_more t at first size (inl e) =
    ap (λ (k : ℕ). waiting t first size ++ take k (drop (start_of t at) t.store)) e ∙ append-nil (waiting t first size)
    ∙ ap (waiting t first) (let q : size ≡ size + length_of t at = omega arith in q)
wait_more t at first size (inr e) =
    ap (λ (l : List ℕ). waiting t first size ++ take (length_of t at) l) (ap (λ (k : ℕ). drop k t.store) e ∙ sym (drop-drop size first t.store))
    ∙ sym (take-add size (length_of t at) (drop first t.store))

pub read_begins : {n : ℕ} {t : Table} {v o : List ℕ} → CellsAsked n t v o → Reading n t v o v o 0 0 0 0
read_begins {n} {t} {v} {o} a = record {
  within = omega arith;
  stored = omega arith;
  values = laying_is (laying_begins (joined (values_of n t)) v 0 (omega (arith, values_long a.cells, a.for_values))) (ap joined (from_zero n t));
  offsets = laying_is (laying_begins (offsets_of (values_of n t)) o 0 (omega (arith, offsets_long n t, a.for_offsets))) (ap offsets_of (from_zero n t));
}

module _ {n : ℕ} {t : Table} {v₀ o₀ v o : List ℕ} {at to first size : ℕ} (c : Reading n t v₀ o₀ v o at to first size) where
  pub read_same : length v ≡ length v₀
  read_same = laying_same (joined (values_of n t)) v₀ 0 v to (waiting t first size ++ joined (values_from n t at)) c.values

  waiting_long : length (waiting t first size) ≡ size
  waiting_long = length-take-le size (drop first t.store) (omega (arith, length-drop first t.store, c.stored))

  -- room for the bytes that wait
  pub value_room : to + size ≤ length v
  value_room =
      omega (
        arith,
        laying_left (joined (values_of n t)) v₀ 0 v to (waiting t first size ++ joined (values_from n t at)) c.values,
        length-append (waiting t first size) (joined (values_from n t at)),
        waiting_long,
        c.values.room,
        read_same,
      )

  -- they are copied, and those of another place wait
  pub wait_again : {v' : List ℕ} → v' ≡ over_at to (waiting t first size) v → (start : ℕ) → start ≤ length t.store → Reading n t v₀ o₀ v' o at (to + size) start 0
  wait_again {v'} e start h = record {
    within = c.within;
    stored = omega arith;
    values = laying_part (joined (values_of n t)) v₀ 0 v to (waiting t first size) (joined (values_from n t at)) c.values v'
        (e ∙ ap (λ (j : ℕ). over_at j (waiting t first size) v) (sym (zero-add to))) (to + size) (let q : to + size ≡ to + length (waiting t first size) = omega (arith, waiting_long) in q);
    offsets = laying_is c.offsets (ap (offsets_from n t at) (sym (add-zero (to + size))));
  }

  -- the offset of the next cell, or of the end, is stored
  offset_stored : Laying (offsets_of (values_of n t)) o₀ 0 (set o at (to + size)) (at + 1) (ends (to + size) (values_from n t at))
  offset_stored =
      let want : List ℕ = offsets_of (values_of n t) in
      let left : List ℕ = ends (to + size) (values_from n t at) in
      subst (λ (j : ℕ). Laying want o₀ 0 (set o j (to + size)) (at + 1) left) (zero-add at) (laying_store want o₀ 0 o at (to + size) left c.offsets)

  goes_stored : InStore n t → at < n → GoesOn t at (first + size) → first + (size + length_of t at) ≤ length t.store
  goes_stored s h (inl e) = omega (arith, c.stored)
  goes_stored s h (inr e) = omega (arith, s.placed at h)

  module _ (s : InStore n t) (h : at < n) (g : GoesOn t at (first + size)) where
    -- the next cell waits too
    pub read_more : Reading n t v₀ o₀ v (set o at (to + size)) (at + 1) to first (size + length_of t at)
    read_more =
        let cut : List Value = values_from n t (at + 1) in
        let long : to + size + length (bytes_of t at) ≡ to + (size + length_of t at) = omega (arith, bytes_long s at h) in
        record {
          within = omega arith;
          stored = goes_stored s h g;
          values = laying_is c.values
              (ap (λ (vs : List Value). waiting t first size ++ joined vs) (from_next n t at h)
              ∙ sym (append_assoc (waiting t first size) (bytes_of t at) (joined cut)) ∙ ap (λ (l : List ℕ). l ++ joined cut) (wait_more t at first size g));
          offsets = laying_is offset_stored (ap (ends (to + size)) (from_next n t at h) ∙ ap (λ (j : ℕ). j ∷ ends j cut) long);
        }

  module _ (h : n ≤ at) where
    pub read_values : {v' : List ℕ} → v' ≡ over_at to (waiting t first size) v → v' ≡ over (joined (values_of n t)) v₀
    read_values {v'} e =
        laying_ends (joined (values_of n t)) v₀ 0 v' (to + size)
        (laying_is (wait_again e 0 (omega arith)).values (ap joined (from_end n t at h)))

    pub read_offsets : set o at (to + size) ≡ over (offsets_of (values_of n t)) o₀
    read_offsets = laying_ends (offsets_of (values_of n t)) o₀ 0 (set o at (to + size)) (at + 1) (laying_is offset_stored (ap (ends (to + size)) (from_end n t at h)))

-- ---- the next cell goes on where the bytes before it end, or those were copied

pub record Ready (n : ℕ) (t : Table) (v₀ o₀ v o : List ℕ) (at to first size : ℕ) : Type 0 where
  pub reading : Reading n t v₀ o₀ v o at to first size
  pub goes : GoesOn t at (first + size)

module _ {n : ℕ} {t : Table} {v₀ o₀ v o : List ℕ} {at to first size : ℕ} where
  pub ready_is : Ready n t v₀ o₀ v o at to first size → {v' : List ℕ} {to' first' size' : ℕ} → v' ≡ v → to' ≡ to → first' ≡ first → size' ≡ size
      → Ready n t v₀ o₀ v' o at to' first' size'
  ready_is r ev et ef es = rw (ev, et, ef, es) r

  pub ready_again : Reading n t v₀ o₀ v o at to first size → InStore n t → at < n → {v' : List ℕ} → v' ≡ over_at to (waiting t first size) v
      → Ready n t v₀ o₀ v' o at (to + size) (start_of t at) 0
  ready_again c s h e = record { reading = wait_again c e (start_of t at) (omega (arith, s.placed at h)); goes = inr (sym (add-zero (start_of t at))) }

  pub ready_more : Ready n t v₀ o₀ v o at to first size → InStore n t → at < n → Reading n t v₀ o₀ v (set o at (to + size)) (at + 1) to first (size + length_of t at)
  ready_more r s h = read_more r.reading s h r.goes
