-- Where the bytes of a setting go: behind the highest-lying cell, or behind all cells once they are packed.
-- Assumes nothing.
use mathlib.Core.Path.{◌≡◌, refl, sym, ap, ◌∙◌}
use Prim.Native.Nat.{ℕ, ◌+◌, ◌-◌, ◌≤◌, ◌<◌}
use native.Mathlib.Omega.{arith}
use mathlib.Core.Bool.{Bool, true, false}
use mathlib.Core.List.{List, [], ◌∷◌}
use lib.ListN.{length, take, drop, set}
use lib.Seq.{take_all}
use lib.Dec.{leb}
use borrow.Author.Tests.{le-leb, lt-leb, leb-true}
use Rattle.array.specs.Lists.{from, pick}
use Rattle.array.specs.Cells.{Value}
use Rattle.array.specs.Buffers.{over_at}
use Rattle.array.specs.Places.{sum, offset_at}
use Rattle.array.proofs.Lists.{All-map}
use Rattle.table.specs.Table.{Table, TableOk, Placed, ending, filled}
use Rattle.table.specs.Lying.{top_of, packed_whole}
use Rattle.table.specs.Order.{Lies}
use Rattle.table.specs.Setting.{roomy_for, placed_at, bytes_put}
use Rattle.table.specs.Walk.{InOrder, Moved}
use Rattle.table.specs.Meaning.{table_by}
use Rattle.table.proofs.Order.{lies_are, lies_follow, sum_fits, All-filled}
use Rattle.table.proofs.Walk.{in_order, displaced_most, packed-whole}
use Rattle.table.proofs.Packing.{top_least, packed-whole as whole-packed}
use Rattle.table_place.specs.Place.{Roomy, Put}

module _ {n : ℕ} {s l b : List ℕ} (ok : TableOk 0 n (table_by [] s l b)) where
  -- the cells with bytes, as they were found
  pub found : {js : List ℕ} → Lies (offset_at s) (offset_at l) n js → InOrder n (table_by [] s l b) js
  found y = in_order ok (lies_are y (lies_follow y ok.apart))

  pub total_small : sum l ≤ length b
  total_small = sum_fits (table_by [] s l b) n ok.placed ok.apart ok.lengths_fit

  module _ {size r : ℕ} where
    -- enough remains
    pub roomy_left : r ≡ top_of (table_by [] s l b) n → size ≤ length b - r → Roomy size n s l b r s b
    roomy_left e h =
        let fits : leb size (length b - top_of (table_by [] s l b) n) ≡ true = le-leb size (length b - top_of (table_by [] s l b) n) (omega (arith, e)) in
        let same : (m : List ℕ) → roomy_for size n (table_by m s l b) ≡ table_by m s l b =
        λ m. ap (λ (t : Bool). pick t (table_by m s l b) (packed_whole n (table_by m s l b))) fits in
        record { place = e ∙ sym (ap (λ (u : Table). top_of u n) (same [])); table = λ m. sym (same m) }

    -- too little remains
    pub roomy_packed : {top k : ℕ} {s' b' : List ℕ} → top ≡ top_of (table_by [] s l b) n → length b - top < size → Moved n n s l b k s' b' → r ≡ sum l
        → Roomy size n s l b r s' b'
    roomy_packed {top} e h moved er =
        let short : leb size (length b - top_of (table_by [] s l b) n) ≡ false = lt-leb size (length b - top_of (table_by [] s l b) n) (omega (arith, e)) in
        let same : (m : List ℕ) → roomy_for size n (table_by m s l b) ≡ packed_whole n (table_by m s l b) =
        λ m. ap (λ (t : Bool). pick t (table_by m s l b) (packed_whole n (table_by m s l b))) short in
        record {
          place = er ∙ sym (whole-packed ok).top ∙ sym (ap (λ (u : Table). top_of u n) (same []));
          table = λ m. moved.table m ∙ packed-whole n n (table_by m s l b) (displaced_most n (table_by m s l b)) ∙ sym (same m);
        }

  -- the bytes fit there
  pub roomy_fits : {size r : ℕ} {s' b' : List ℕ} → Roomy size n s l b r s' b' → sum l + size ≤ length b → r + size ≤ length b
  roomy_fits {size} {r} y h = go (leb size (length b - top_of (table_by [] s l b) n)) refl y.place
    where
      top_low : top_of (table_by [] s l b) n ≤ length b
      top_low =
          let ends : ℕ → Type 0 = λ j. ending (offset_at s) (offset_at l) j ≤ length b in
          top_least (offset_at s) (offset_at l) (length b) (filled (table_by [] s l b) n)
          (All-filled (offset_at s) (offset_at l) n ends (All-map (λ j. Placed (length b) (offset_at s j) (offset_at l j)) ends (λ j p. p.0) (from 0 n) ok.placed))

      go : (t : Bool) → leb size (length b - top_of (table_by [] s l b) n) ≡ t → r ≡ top_of (pick t (table_by [] s l b) (packed_whole n (table_by [] s l b))) n → r + size ≤ length b
      go true e q = omega (arith, q, top_low, leb-true size (length b - top_of (table_by [] s l b) n) e)
      go false e q = omega (arith, q, (whole-packed ok).top)

-- ---- bytes put in

put_some : (n c : ℕ) (v : Value) (t : Table) → 0 < length v → bytes_put n c v t ≡ placed_at (top_of (roomy_for (length v) n t) n) c v (roomy_for (length v) n t)
put_some n c [] t h = absurd (omega arith)
put_some n c (x ∷ v) t h = refl

pub put_is : {n c : ℕ} {v s l b s' b' b'' : List ℕ} {r : ℕ} → 0 < length v → Roomy (length v) n s l b r s' b' → b'' ≡ over_at r (take (length v) (drop 0 v)) b'
    → Put n c v s l b (set s' c r) (set l c (length v)) b''
put_is {n} {c} {v} {s} {l} {b} {s'} {b'} {b''} {r} h y e =
    let all : take (length v) v ≡ v = take_all (length v) v (omega arith) in
    let at : r ≡ top_of (table_by [] s' l b') n = y.place ∙ sym (ap (λ (u : Table). top_of u n) (y.table [])) in
    record {
      table = λ m.
          ap (table_by m (set s' c r) (set l c (length v))) (e ∙ ap (λ (w : List ℕ). over_at r w b') all)
          ∙ ap (λ (p : ℕ). placed_at p c v (table_by m s' l b')) at
          ∙ ap (λ (u : Table). placed_at (top_of u n) c v u) (y.table m)
          ∙ sym (put_some n c v (table_by m s l b) h);
    }
