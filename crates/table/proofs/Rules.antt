-- Each rule for a working table and its test: the test passes where the rule holds (X-test), and the rule holds where the test passes (X-ok).
-- Assumes nothing.
use mathlib.Core.Path.{◌≡◌, refl}
use mathlib.Core.Bool.{Bool, true, false, ◌&&◌}
use Prim.Native.Nat.{ℕ, zero, suc, ◌+◌, ◌*◌, ◌≤◌}
use lib.ListN.{length}
use lib.Dec.{leb, ltb, eqb}
use borrow.Author.Tests.{le-leb, eq-eqb, leb-true, eqb-true}
use Rattle.array.specs.Limits.{most_cells}
use Rattle.array.specs.Lists.{from, every}
use Rattle.array.specs.Kind.{Kind, kind_test}
use Rattle.array.specs.Cells.{Strict, strict_test}
use Rattle.array.specs.Places.{mask_at, shown_by}
use Rattle.array.proofs.Rules.{both, left_of_lem, right_of, every_all, all_every, kind_test_lem, kind_ok, strict_test_lem, strict_ok}
use Rattle.codec.specs.Interleaved.{ragged_test}
use Rattle.codec.proofs.Refusals.{is_ragged_test, is_ragged_ok}
use Rattle.table.specs.Table.{Table, start_of, length_of, TableKind, table_kind_test, CountOk, count_test, OrZero, or_zero_test, RestMasks, rest_masks_test, RestBy, rest_by_test}
use Rattle.table.specs.Table.{Placed, placed_test, apart_test, filled, TableOk, fit_test, rests_test, places_test, table_test, most_store, store_test}
use Rattle.table.specs.declared.answer.TableLengths.{TableLengths}
use Rattle.table.specs.Calls.{TableEnough, table_enough_test, most_test}
use Rattle.table.proofs.Order.{apart_test_lem, apart_ok}

-- ---- 1: the kind, and how many cells a packing call moves

pub table_kind_test_lem : (k : Kind) → TableKind k → table_kind_test k ≡ true
table_kind_test_lem k p = both (kind_test_lem k p.sound) (is_ragged_test k.form p.is_ragged)

pub table_kind_ok : (k : Kind) → table_kind_test k ≡ true → TableKind k
table_kind_ok k e = record {
  sound = kind_ok k (left_of_lem (kind_test k) (ragged_test k.form) e);
  is_ragged = is_ragged_ok k.form (right_of (kind_test k) (ragged_test k.form) e);
}

pub most_test_lem : (most : ℕ) → (1 ≤ most) × (most ≤ 256) → most_test most ≡ true
most_test_lem most p = both (le-leb 1 most p.0) (le-leb most 256 p.1)

pub most_ok : (most : ℕ) → most_test most ≡ true → (1 ≤ most) × (most ≤ 256)
most_ok most e = (leb-true 1 most (left_of_lem (leb 1 most) (leb most 256) e), leb-true most 256 (right_of (leb 1 most) (leb most 256) e))

-- ---- 2: the count of cells

pub count_test_lem : (n : ℕ) → CountOk n → count_test n ≡ true
count_test_lem n p = both (le-leb 1 n p.0) (le-leb n most_cells p.1)

pub count_ok : (n : ℕ) → count_test n ≡ true → CountOk n
count_ok n e = (leb-true 1 n (left_of_lem (leb 1 n) (leb n most_cells) e), leb-true n most_cells (right_of (leb 1 n) (leb n most_cells) e))

-- ---- 4: the table

pub or_zero_test_lem : (b : Bool) (x : ℕ) → OrZero b x → or_zero_test b x ≡ true
or_zero_test_lem true x p = refl
or_zero_test_lem false x p = eq-eqb x 0 p

pub or_zero_ok : (b : Bool) (x : ℕ) → or_zero_test b x ≡ true → OrZero b x
or_zero_ok true x e = tt
or_zero_ok false x e = eqb-true x 0 e

-- mask bytes m l of one cell
module _ (m : ℕ → ℕ) where
  pub rest_masks_test_lem : (d : ℕ) → RestMasks m d → rest_masks_test m d ≡ true
  rest_masks_test_lem zero p = refl
  rest_masks_test_lem (suc l) p = both (rest_masks_test_lem l p.0) (or_zero_test_lem (shown_by m l) (m l) p.1)

  pub rest_masks_ok : (d : ℕ) → rest_masks_test m d ≡ true → RestMasks m d
  rest_masks_ok zero e = tt
  rest_masks_ok (suc l) e = (
    rest_masks_ok l (left_of_lem (rest_masks_test m l) (or_zero_test (shown_by m l) (m l)) e),
    or_zero_ok (shown_by m l) (m l) (right_of (rest_masks_test m l) (or_zero_test (shown_by m l) (m l)) e),
  )

  pub rest_by_test_lem : (d len : ℕ) → RestBy m d len → rest_by_test m d len ≡ true
  rest_by_test_lem d len p = both (rest_masks_test_lem d p.0) (or_zero_test_lem (shown_by m d) len p.1)

  pub rest_by_ok : (d len : ℕ) → rest_by_test m d len ≡ true → RestBy m d len
  rest_by_ok d len e =
      (rest_masks_ok d (left_of_lem (rest_masks_test m d) (or_zero_test (shown_by m d) len) e), or_zero_ok (shown_by m d) len (right_of (rest_masks_test m d) (or_zero_test (shown_by m d) len) e))

pub placed_test_lem : (size start len : ℕ) → Placed size start len → placed_test size start len ≡ true
placed_test_lem size start len p = both (le-leb (start + len) size p.0) (or_zero_test_lem (ltb 0 len) start p.1)

pub placed_ok : (size start len : ℕ) → placed_test size start len ≡ true → Placed size start len
placed_ok size start len e =
    let a : Bool = leb (start + len) size in
    let b : Bool = or_zero_test (ltb 0 len) start in
    (leb-true (start + len) size (left_of_lem a b e), or_zero_ok (ltb 0 len) start (right_of a b e))

module _ (d n : ℕ) (t : Table) where
  abbrev mask_of : ℕ → ℕ → ℕ
  mask_of j l = mask_at n t.masks l j

  pub table_test_lem : TableOk d n t → table_test d n t ≡ true
  unfolding table_test
  table_test_lem p =
      both (both (both (both (both (both (eq-eqb (length t.masks) (d * n) p.masks_fit) (eq-eqb (length t.starts) n p.starts_fit))
      (eq-eqb (length t.lengths) n p.lengths_fit))
      (every_all Strict strict_test strict_test_lem t.masks p.strict))
      (every_all (λ j. RestBy (mask_of j) d (length_of t j)) (λ j. rest_by_test (mask_of j) d (length_of t j)) (λ j. rest_by_test_lem (mask_of j) d (length_of t j)) (from 0 n) p.rests))
      (every_all (λ j. Placed (length t.store) (start_of t j) (length_of t j)) (λ j. placed_test (length t.store) (start_of t j) (length_of t j))
      (λ j. placed_test_lem (length t.store) (start_of t j) (length_of t j)) (from 0 n) p.placed))
      (apart_test_lem (start_of t) (length_of t) (filled t n) p.apart)

  -- the lists are as long as the cells ask
  pub record Fits : Type 0 where
    pub masks_fit : length t.masks ≡ d * n
    pub starts_fit : length t.starts ≡ n
    pub lengths_fit : length t.lengths ≡ n

  pub fit_ok : fit_test d n t ≡ true → Fits
  fit_ok e =
      let a : Bool = eqb (length t.masks) (d * n) in
      let b : Bool = eqb (length t.starts) n in
      let c : Bool = eqb (length t.lengths) n in
      let e0 : a && b ≡ true = left_of_lem (a && b) c e in
      record {
        masks_fit = eqb-true (length t.masks) (d * n) (left_of_lem a b e0);
        starts_fit = eqb-true (length t.starts) n (right_of a b e0);
        lengths_fit = eqb-true (length t.lengths) n (right_of (a && b) c e);
      }

  pub table_ok : table_test d n t ≡ true → TableOk d n t
  unfolding table_test
  table_ok e =
      let f : Bool = fit_test d n t in
      let s : Bool = every strict_test t.masks in
      let r : Bool = rests_test d n t in
      let q : Bool = places_test n t in
      let l : Bool = apart_test (start_of t) (length_of t) (filled t n) in
      let e4 : f && s && r && q ≡ true = left_of_lem (f && s && r && q) l e in
      let e3 : f && s && r ≡ true = left_of_lem (f && s && r) q e4 in
      let e2 : f && s ≡ true = left_of_lem (f && s) r e3 in
      let g : Fits = fit_ok (left_of_lem f s e2) in
      record {
        masks_fit = g.masks_fit;
        starts_fit = g.starts_fit;
        lengths_fit = g.lengths_fit;
        strict = all_every Strict strict_test strict_ok t.masks (right_of f s e2);
        rests =
            all_every (λ j. RestBy (mask_of j) d (length_of t j)) (λ j. rest_by_test (mask_of j) d (length_of t j)) (λ j. rest_by_ok (mask_of j) d (length_of t j))
            (from 0 n) (right_of (f && s) r e3);
        placed =
            all_every (λ j. Placed (length t.store) (start_of t j) (length_of t j)) (λ j. placed_test (length t.store) (start_of t j) (length_of t j))
            (λ j. placed_ok (length t.store) (start_of t j) (length_of t j)) (from 0 n) (right_of (f && s && r) q e4);
        apart = apart_ok (start_of t) (length_of t) (filled t n) (right_of (f && s && r && q) l e);
      }

-- ---- 5: the store's length

pub store_test_lem : (t : Table) → length t.store ≤ most_store → store_test t ≡ true
store_test_lem t h = le-leb (length t.store) most_store h

pub store_ok : (t : Table) → store_test t ≡ true → length t.store ≤ most_store
store_ok t e = leb-true (length t.store) most_store e

-- ---- 6: outputs

pub table_enough_test_lem : (t : Table) (r : TableLengths) → TableEnough t r → table_enough_test t r ≡ true
table_enough_test_lem t r p =
    both (both (both (le-leb (length t.masks) r.masks p.for_masks) (le-leb (length t.starts) r.starts p.for_starts))
    (le-leb (length t.lengths) r.lengths p.for_lengths))
    (le-leb (length t.store) r.store p.for_store)

pub table_enough_ok : (t : Table) (r : TableLengths) → table_enough_test t r ≡ true → TableEnough t r
table_enough_ok t r e =
    let a : Bool = leb (length t.masks) r.masks in
    let b : Bool = leb (length t.starts) r.starts in
    let c : Bool = leb (length t.lengths) r.lengths in
    let d : Bool = leb (length t.store) r.store in
    let e3 : a && b && c ≡ true = left_of_lem (a && b && c) d e in
    let e2 : a && b ≡ true = left_of_lem (a && b) c e3 in
    record {
      for_masks = leb-true (length t.masks) r.masks (left_of_lem a b e2);
      for_starts = leb-true (length t.starts) r.starts (right_of a b e2);
      for_lengths = leb-true (length t.lengths) r.lengths (right_of (a && b) c e3);
      for_store = leb-true (length t.store) r.store (right_of (a && b && c) d e);
    }
