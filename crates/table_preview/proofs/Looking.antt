-- A walk over the cells of a table but one: what is found so far, cell by cell.
-- Assumes nothing.
use mathlib.Core.Path.{◌≡◌, sym, ap, ap₂, ◌∙◌}
use mathlib.Core.Bool.{Bool, true, false, not}
use mathlib.Core.List.{List, [], ◌∷◌, ◌++◌, map, append-nil}
use Prim.Native.Nat.{ℕ, ◌+◌, ◌≤◌, ◌<◌, max}
use native.Mathlib.Nat.{zero-add}
use native.Mathlib.Numerals.{add-one}
use native.Mathlib.Omega.{arith}
use lib.ListN.{length, take, drop, get_or, take-append-drop}
use lib.Seq.{take-suc}
use lib.Dec.{eqb}
use borrow.Author.Tests.{eq-eqb, ne_eqb}
use Rattle.array.specs.Lists.{pick, passing}
use Rattle.array.specs.Places.{sum, offset_at}
use Rattle.array.proofs.Lists.{map-append}
use Rattle.array.proofs.Places.{sum-append}
use Rattle.array.proofs.Geometry.{passing-append}
use Rattle.table.specs.Table.{ending, most_store}
use Rattle.table.specs.Lying.{top_by}
use Rattle.table.specs.Walk.{elsewhere_by, without}
use Rattle.table.proofs.Foreseeing.{walk_append}
use Rattle.table_sums.proofs.Totals.{top_append}
use Rattle.table_preview.specs.Others.{Walkable}

-- the bytes of some of the cells are no more than those of all
passing-sum : (f : ℕ → ℕ) (p : ℕ → Bool) (xs : List ℕ) → sum (map f (passing p xs)) ≤ sum (map f xs)
passing-sum f p [] = omega arith
passing-sum f p (x ∷ xs) = go (p x) (passing-sum f p xs)
  where
    go : (b : Bool) → sum (map f (passing p xs)) ≤ sum (map f xs) → sum (map f (pick b (x ∷ passing p xs) (passing p xs))) ≤ f x + sum (map f xs)
    go true h = omega arith
    go false h = omega arith

-- behind the first i of the cells js
pub record Looked (starts lengths : List ℕ) (c : ℕ) (js : List ℕ) (unpacked packed top i : ℕ) : Type 0 where
  pub walkable : Walkable starts lengths js
  pub within : i ≤ length js
  pub few : unpacked ≤ i
  pub elsewhere : unpacked ≡ elsewhere_by (offset_at starts) (offset_at lengths) 0 (without c (take i js))
  pub bytes : packed ≡ sum (map (offset_at lengths) (without c (take i js)))
  pub ends : top ≡ top_by (offset_at starts) (offset_at lengths) (without c (take i js))

module _ {starts lengths js : List ℕ} {c unpacked packed top i : ℕ} (l : Looked starts lengths c js unpacked packed top i) where
  abbrev start : ℕ → ℕ
  start = offset_at starts

  abbrev len : ℕ → ℕ
  len = offset_at lengths

  module _ (h : i < length js) where
    abbrev j : ℕ
    j = get_or js i 0

    one_more : {b : Bool} → eqb j c ≡ b → without c (take (i + 1) js) ≡ without c (take i js) ++ pick (not b) (j ∷ []) []
    one_more e =
        ap (without c) (ap (λ (k : ℕ). take k js) (add-one i) ∙ take-suc js i 0 h)
        ∙ passing-append (λ k. not (eqb k c)) (take i js) (j ∷ []) ∙ ap (λ (b : Bool). without c (take i js) ++ pick (not b) (j ∷ []) []) e

    -- it is the cell that is left out
    pub looked_past : j ≡ c → Looked starts lengths c js unpacked packed top (i + 1)
    looked_past e =
        let same : without c (take i js) ≡ without c (take (i + 1) js) = sym (one_more (eq-eqb j c e) ∙ append-nil (without c (take i js))) in
        record {
          walkable = l.walkable;
          within = omega arith;
          few = omega (arith, l.few);
          elsewhere = l.elsewhere ∙ ap (elsewhere_by start len 0) same;
          bytes = l.bytes ∙ ap (λ (ks : List ℕ). sum (map len ks)) same;
          ends = l.ends ∙ ap (top_by start len) same;
        }

    module _ (ne : j ≡ c → ⊥) where
      next : without c (take (i + 1) js) ≡ without c (take i js) ++ (j ∷ [])
      next = one_more (ne_eqb j c ne)

      bytes_more : packed + len j ≡ sum (map len (without c (take (i + 1) js)))
      bytes_more =
          omega (
            arith,
            l.bytes,
            ap (λ (ks : List ℕ). sum (map len ks)) next,
            ap sum (map-append len (without c (take i js)) (j ∷ [])),
            sum-append (map len (without c (take i js))) (len j ∷ []),
          )

      pub bytes_small : packed + len j ≤ most_store
      bytes_small =
          let some = passing-sum len (λ k. not (eqb k c)) (take (i + 1) js) in
          let part = ap (λ (ks : List ℕ). sum (map len ks)) (take-append-drop (i + 1) js) in
          let parts = ap sum (map-append len (take (i + 1) js) (drop (i + 1) js)) in
          omega (arith, bytes_more, some, part, parts, sum-append (map len (take (i + 1) js)) (map len (drop (i + 1) js)), l.walkable.small)

      pub looked_more : {unpacked' top' : ℕ} → unpacked' ≡ unpacked + pick (eqb (start j) packed) 0 1 → top' ≡ max top (ending start len j)
          → Looked starts lengths c js unpacked' (packed + len j) top' (i + 1)
      looked_more e f = record {
        walkable = l.walkable;
        within = omega arith;
        few = omega (arith, e, l.few, at_most (eqb (start j) packed));
        elsewhere =
            e ∙ ap₂ (λ (u a : ℕ). u + pick (eqb (start j) a) 0 1) l.elsewhere (l.bytes ∙ sym (zero-add (sum (map len (without c (take i js))))))
            ∙ sym (ap (elsewhere_by start len 0) next ∙ walk_append start len 0 (without c (take i js)) j);
        bytes = bytes_more;
        ends = f ∙ ap (λ (a : ℕ). max a (ending start len j)) l.ends ∙ sym (ap (top_by start len) next ∙ top_append start len (without c (take i js)) j);
      }
        where
          at_most : (b : Bool) → pick b 0 1 ≤ 1
          at_most true = omega arith
          at_most false = omega arith

-- the same in other words
pub looked_is : {starts lengths js : List ℕ} {c unpacked packed top i : ℕ} → Looked starts lengths c js unpacked packed top i
    → {unpacked' packed' top' : ℕ} → unpacked' ≡ unpacked → packed' ≡ packed → top' ≡ top → Looked starts lengths c js unpacked' packed' top' i
looked_is l e f g = record { walkable = l.walkable; within = l.within; few = omega (arith, l.few, e); elsewhere = e ∙ l.elsewhere; bytes = f ∙ l.bytes; ends = g ∙ l.ends }
