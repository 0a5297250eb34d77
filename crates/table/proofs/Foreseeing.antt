-- How many cells start elsewhere after a setting, by a walk over the others as they lie.
-- Assumes nothing.
use mathlib.Core.Path.{◌≡◌, refl, sym, ap, ap₂, ◌∙◌, subst}
use mathlib.Core.Logic.{◌⊎◌, inl, inr}
use mathlib.Core.Bool.{Bool, true, false, not}
use mathlib.Core.List.{List, [], ◌∷◌, ◌++◌, map}
use Prim.Native.Nat.{ℕ, suc, ◌+◌, ◌-◌, ◌≤◌, ◌<◌}
use native.Mathlib.Nat.{zero-add}
use native.Mathlib.Omega.{arith}
use lib.ListN.{length, set}
use lib.Dec.{leb, ltb, eqb}
use borrow.Author.Tests.{leb-true, lt-ltb, eq-eqb, ne_eqb, eqb-false, not-true}
use Rattle.array.specs.Lists.{pick, from, passing, count, All}
use Rattle.array.specs.Cells.{Value, Cell, leaf, rest}
use Rattle.array.specs.Places.{sum}
use Rattle.array.proofs.Lists.{All-map}
use Rattle.array.proofs.RestLaws.{StrictCell}
use Rattle.array.proofs.Sums.{count-append}
use Rattle.table.specs.Table.{Table, TableOk, start_of, length_of, ending, filled_by, filled}
use Rattle.table.specs.Lying.{lying_by, top_by, top_of, displaced, packed_whole}
use Rattle.table.specs.Order.{RisingBy, Lies}
use Rattle.table.specs.Setting.{setting_masks, given_up, masked, placed_at, bytes_put, sum_after}
use Rattle.table.specs.Walk.{InOrder, elsewhere_by, without, unpacked_by}
use Rattle.table.proofs.Order.{Counts, count_here, count_other, same_or_not, All-same, All-passing, all_pass}
use Rattle.table.proofs.Order.{sum_same, filled_once, filled-sum, lies_all, lies_some, lies_below, lies_follow, lies_are, lying_lies}
use Rattle.table.proofs.Each.{lengths_are}
use Rattle.table.proofs.Filled.{all_full, full_some}
use Rattle.table.proofs.Moving.{Moved}
use Rattle.table.proofs.Packing.{moved_none, top_least, top_above, packed-whole}
use Rattle.table.proofs.Setting.{above, base_ok, start_other, length_here, length_other}
use Rattle.table.proofs.Setting.{none_there, put_start, other_start, put-length, other_length, put_ok}
use Rattle.table.proofs.Walk.{in_order, walk_counts}

-- ---- lists

count_passed : (p : ℕ → Bool) (i : ℕ) (xs : List ℕ) → count i (passing p xs) ≡ pick (p i) (count i xs) 0
count_passed p i [] = go (p i)
  where
    go : (b : Bool) → count i [] ≡ pick b (count i []) 0
    go true = refl
    go false = refl
count_passed p i (x ∷ xs) = go (p x) refl (same_or_not i x) (count_passed p i xs)
  where
    by : (b : Bool) → p i ≡ b → (m : ℕ) → pick (p i) m 0 ≡ pick b m 0
    by b e m = ap (λ (c : Bool). pick c m 0) e

    go : (b : Bool) → p x ≡ b → (i ≡ x) ⊎ (i ≡ x → ⊥) → count i (passing p xs) ≡ pick (p i) (count i xs) 0
        → count i (pick b (x ∷ passing p xs) (passing p xs)) ≡ pick (p i) (count i (x ∷ xs)) 0
    go true e (inl q) ih =
        let pi : p i ≡ true = ap p q ∙ e in
        ap (λ (k : ℕ). count i (k ∷ passing p xs)) (sym q) ∙ count_here i (passing p xs) ∙ ap suc (ih ∙ by true pi (count i xs))
        ∙ sym (by true pi (count i (x ∷ xs)) ∙ ap (λ (k : ℕ). count i (k ∷ xs)) (sym q) ∙ count_here i xs)
    go true e (inr ne) ih = count_other i x (passing p xs) ne ∙ ih ∙ ap (λ (m : ℕ). pick (p i) m 0) (sym (count_other i x xs ne))
    go false e (inl q) ih = let pi : p i ≡ false = ap p q ∙ e in ih ∙ by false pi (count i xs) ∙ sym (by false pi (count i (x ∷ xs)))
    go false e (inr ne) ih = ih ∙ ap (λ (m : ℕ). pick (p i) m 0) (sym (count_other i x xs ne))

rising_passing : (f : ℕ → ℕ) (p : ℕ → Bool) (xs : List ℕ) → RisingBy f xs → RisingBy f (passing p xs)
rising_passing f p [] r = tt
rising_passing f p (x ∷ xs) r = go (p x) (rising_passing f p xs r.1)
  where
    go : (b : Bool) → RisingBy f (passing p xs) → RisingBy f (pick b (x ∷ passing p xs) (passing p xs))
    go true ih = (All-passing p (λ j. f x ≤ f j) xs r.0, ih)
    go false ih = ih

rising_same : (f g : ℕ → ℕ) (xs : List ℕ) → All (λ j. g j ≡ f j) xs → RisingBy f xs → RisingBy g xs
rising_same f g [] a r = tt
rising_same f g (x ∷ xs) a r = (later xs a.1 r.0, rising_same f g xs a.1 r.1)
  where
    later : (ys : List ℕ) → All (λ j. g j ≡ f j) ys → All (λ j. f x ≤ f j) ys → All (λ j. g x ≤ g j) ys
    later [] b h = tt
    later (y ∷ ys) b h = (omega (arith, a.0, b.0, h.0), later ys b.1 h.1)

rising_last : (f : ℕ → ℕ) (xs : List ℕ) (c : ℕ) → All (λ j. f j ≤ f c) xs → RisingBy f xs → RisingBy f (xs ++ (c ∷ []))
rising_last f [] c a r = (tt, tt)
rising_last f (x ∷ xs) c a r = (later xs r.0, rising_last f xs c a.1 r.1)
  where
    later : (ys : List ℕ) → All (λ j. f x ≤ f j) ys → All (λ j. f x ≤ f j) (ys ++ (c ∷ []))
    later [] h = (a.0, tt)
    later (y ∷ ys) h = (h.0, later ys h.1)

-- ---- cells that lie as before, but for cell c

module _ (start len start' len' : ℕ → ℕ) (c : ℕ) where
  abbrev Alike : Type 0
  Alike = (j : ℕ) → (j ≡ c → ⊥) → (start' j ≡ start j) × (len' j ≡ len j)

  filled_alike : Alike → (n i : ℕ) → (i ≡ c → ⊥) → count i (filled_by start len n) ≡ count i (filled_by start' len' n)
  filled_alike same n i ne =
      count_passed (λ j. ltb 0 (len j)) i (from 0 n) ∙ ap (λ (m : ℕ). pick (ltb 0 m) (count i (from 0 n)) 0) (sym (same i ne).1)
      ∙ sym (count_passed (λ j. ltb 0 (len' j)) i (from 0 n))

  filled_none : (n : ℕ) (l : ℕ → ℕ) → l c ≡ 0 → count c (filled_by start l n) ≡ 0
  filled_none n l e =
      count_passed (λ j. ltb 0 (l j)) c (from 0 n) ∙ ap (λ (m : ℕ). pick (ltb 0 m) (count c (from 0 n)) 0) e

  walk_alike : (at : ℕ) (js : List ℕ) → All (λ j. (start' j ≡ start j) × (len' j ≡ len j)) js → elsewhere_by start' len' at js ≡ elsewhere_by start len at js
  walk_alike at [] a = refl
  walk_alike at (j ∷ js) a =
      ap₂ ◌+◌ (ap (λ (s : ℕ). pick (eqb s at) 0 1) a.0.0) (ap (λ (m : ℕ). elsewhere_by start' len' (at + m) js) a.0.1 ∙ walk_alike (at + len j) js a.1)

  top_alike : (js : List ℕ) → All (λ j. (start' j ≡ start j) × (len' j ≡ len j)) js → top_by start' len' js ≡ top_by start len js
  top_alike [] a = refl
  top_alike (j ∷ js) a = omega (arith, a.0.0, a.0.1, top_alike js a.1)

  sum_alike : (js : List ℕ) → All (λ j. (start' j ≡ start j) × (len' j ≡ len j)) js → sum (map len' js) ≡ sum (map len js)
  sum_alike [] a = refl
  sum_alike (j ∷ js) a = ap₂ ◌+◌ a.0.1 (sum_alike js a.1)

  -- it has no bytes any more
  lies_without : {n : ℕ} {js : List ℕ} → Alike → len' c ≡ 0 → Lies start len n js → Lies start' len' n (without c js)
  lies_without {n} {js} same none l = record {
    same = λ i. go i (same_or_not i c);
    rising = rising_same start start' (without c js) (others_alike js) (rising_passing start (λ j. not (eqb j c)) js l.rising);
  }
    where
      others_alike : (xs : List ℕ) → All (λ j. start' j ≡ start j) (without c xs)
      others_alike xs = all_pass (λ j. not (eqb j c)) (λ j. start' j ≡ start j) (λ j e. (same j (eqb-false j c (not-true (eqb j c) e))).0) xs

      go : (i : ℕ) → (i ≡ c) ⊎ (i ≡ c → ⊥) → count i (without c js) ≡ count i (filled_by start' len' n)
      go i (inl q) =
          count_passed (λ j. not (eqb j c)) i js ∙ ap (λ (b : Bool). pick (not b) (count i js) 0) (eq-eqb i c q)
          ∙ sym (ap (λ (k : ℕ). count k (filled_by start' len' n)) q ∙ filled_none n len' none)
      go i (inr ne) =
          count_passed (λ j. not (eqb j c)) i js ∙ ap (λ (b : Bool). pick (not b) (count i js) 0) (ne_eqb i c ne) ∙ l.same i ∙ filled_alike same n i ne

  -- it has bytes now, and lies highest
  lies_last : {n : ℕ} {js : List ℕ} → Alike → len c ≡ 0 → 0 < len' c → c < n → All (λ j. start' j ≤ start' c) js → Lies start len n js → Lies start' len' n (js ++ (c ∷ []))
  lies_last {n} {js} same none some low high l = record {
    same = λ i. count-append i js (c ∷ []) ∙ go i (same_or_not i c);
    rising = rising_last start' js c high (rising_same start start' js alike l.rising);
  }
    where
      alike : All (λ j. start' j ≡ start j) js
      alike = All-map (λ j. 0 < len j) (λ j. start' j ≡ start j) (λ j h. (same j (λ e. omega (arith, ap len e))).0) js (lies_some l)

      go : (i : ℕ) → (i ≡ c) ⊎ (i ≡ c → ⊥) → count i js + count i (c ∷ []) ≡ count i (filled_by start' len' n)
      go i (inl q) =
          let once : count c (filled_by start' len' n) ≡ 1 = omega (arith, filled_once start' len' n c, full_some start' len' n c (low, some)) in
          let zero : count c js ≡ 0 = l.same c ∙ filled_none n len none in
          ap (λ (k : ℕ). count k js + count k (c ∷ [])) q ∙ omega (arith, zero, count_here c []) ∙ sym once ∙ ap (λ (k : ℕ). count k (filled_by start' len' n)) (sym q)
      go i (inr ne) = omega (arith, count_other i c [] ne, l.same i, filled_alike same n i ne)

-- ---- the end of the highest-lying cell, in whatever order they are looked at

top_same : (start len : ℕ → ℕ) (xs ys : List ℕ) → Counts xs ys → top_by start len xs ≡ top_by start len ys
top_same start len xs ys e =
    omega (
      arith,
      top_least start len (top_by start len ys) xs (All-same (λ j. ending start len j ≤ top_by start len ys) ys xs (λ i. sym (e i)) (top_above start len ys)),
      top_least start len (top_by start len xs) ys (All-same (λ j. ending start len j ≤ top_by start len xs) xs ys e (top_above start len xs)),
    )

-- ---- the walk, one cell more; and all the bytes of a table

abbrev one : (ℕ → ℕ) → ℕ → ℕ → ℕ
one start j at = pick (eqb (start j) at) 0 1

pub walk_append : (start len : ℕ → ℕ) (at : ℕ) (xs : List ℕ) (j : ℕ)
    → elsewhere_by start len at (xs ++ (j ∷ [])) ≡ elsewhere_by start len at xs + pick (eqb (start j) (at + sum (map len xs))) 0 1
walk_append start len at [] j = let e : at ≡ at + 0 = omega arith in omega (arith, ap (one start j) e)
walk_append start len at (x ∷ xs) j =
    let e : at + len x + sum (map len xs) ≡ at + (len x + sum (map len xs)) = omega arith in
    omega (arith, walk_append start len (at + len x) xs j, ap (one start j) e)

pub lying_sum : {d : ℕ} (t : Table) (n : ℕ) → TableOk d n t → sum (map (length_of t) (lying_by (start_of t) (length_of t) (filled t n))) ≡ sum t.lengths
lying_sum t n ok =
    sum_same (length_of t) n (lying_by (start_of t) (length_of t) (filled t n)) (filled t n) (lying_lies (start_of t) (length_of t) n).same
    (lies_below (lying_lies (start_of t) (length_of t) n))
    ∙ filled-sum (length_of t) (from 0 n) ∙ ap sum (lengths_are ok)

-- ---- a setting

pub lies_of : {n : ℕ} {t : Table} {js : List ℕ} → InOrder n t js → Lies (start_of t) (length_of t) n js
lies_of {n} {t} o = subst (Lies (start_of t) (length_of t) n) (sym o.lying) (lying_lies (start_of t) (length_of t) n)

order_of_lem : {d n : ℕ} {t : Table} {js : List ℕ} → TableOk d n t → Lies (start_of t) (length_of t) n js → InOrder n t js
order_of_lem ok l = in_order ok (lies_are l (lies_follow l ok.apart))

module _ {d n : ℕ} {t : Table} (ok : TableOk d n t) (c : ℕ) (low : c < n) (x : Cell d) (strict : StrictCell d x) (rests : rest [] d x ≡ x) where
  abbrev base : Table
  base = masked d n c (setting_masks d x) (given_up c t)

  -- ---- bytes put right after the highest-lying cell, in what moving left

  module _ {u : Table} (m : Moved d n base u) (v : Value) (e : leaf d x ≡ v) (some : 0 < length v) (room : top_of u n + length v ≤ length u.store) where
    abbrev put : Table
    put = placed_at (top_of u n) c v u

    alike : Alike (start_of u) (length_of u) (start_of put) (length_of put) c
    alike j ne = (other_start ok c low x strict rests m v e some room j ne, other_length ok c low x strict rests m v e some room j ne)

    here : start_of put c ≡ top_of u n
    here = put_start ok c low x strict rests m v e some room

    none : length_of u c ≡ 0
    none = none_there ok c low x strict rests m v e some room

    module _ {js : List ℕ} (l : Lies (start_of u) (length_of u) n js) where
      same_there : All (λ j. (start_of put j ≡ start_of u j) × (length_of put j ≡ length_of u j)) js
      same_there =
          All-map (λ j. 0 < length_of u j) (λ j. (start_of put j ≡ start_of u j) × (length_of put j ≡ length_of u j))
          (λ j h. alike j (λ q. omega (arith, ap (length_of u) q, none))) js (lies_some l)

      lower : All (λ j. start_of put j ≤ start_of put c) js
      lower =
          lies_all l (λ j. start_of put j ≤ start_of put c)
          (all_full (start_of u) (length_of u) n (λ j. start_of put j ≤ start_of put c)
          (λ j f. omega (arith, above u n j f.0 f.1, (alike j (λ q. omega (arith, f.1, ap (length_of u) q, none))).0, here)))

      last : Lies (start_of put) (length_of put) n (js ++ (c ∷ []))
      last =
          lies_last (start_of u) (length_of u) (start_of put) (length_of put) c alike none
          (omega (arith, put-length ok c low x strict rests m v e some room)) low lower l

    put_counts : length (displaced put n) ≡ length (displaced u n) + pick (eqb (top_of u n) (sum u.lengths)) 0 1
    put_counts =
        let js = lying_by (start_of u) (length_of u) (filled u n) in
        let l : Lies (start_of u) (length_of u) n js = lying_lies (start_of u) (length_of u) n in
        let total : sum (map (length_of u) js) ≡ sum u.lengths = lying_sum u n m.sound in
        walk_counts (order_of_lem (put_ok ok c low x strict rests m v e some room) (last l))
        ∙ walk_append (start_of put) (length_of put) 0 js c
        ∙ ap₂ ◌+◌ (walk_alike (start_of u) (length_of u) (start_of put) (length_of put) c 0 js (same_there l) ∙ sym (walk_counts (order_of_lem m.sound l)))
        (ap₂ (λ (s a : ℕ). pick (eqb s a) 0 1) here (zero-add (sum (map (length_of put) js)) ∙ sum_alike (start_of u) (length_of u) (start_of put) (length_of put) c js (same_there l) ∙ total))

  -- ---- from the cells as they lie before it

  module _ {js : List ℕ} (o : InOrder n t js) where
    others_alike : Alike (start_of t) (length_of t) (start_of base) (length_of base) c
    others_alike j ne = (start_other ok c low x strict rests j ne, length_other ok c low x strict rests j ne)

    base_lies : Lies (start_of base) (length_of base) n (without c js)
    base_lies = lies_without (start_of t) (length_of t) (start_of base) (length_of base) c others_alike (length_here ok c low x strict rests) (lies_of o)

    others_same : All (λ j. (start_of base j ≡ start_of t j) × (length_of base j ≡ length_of t j)) (without c js)
    others_same =
        all_pass (λ j. not (eqb j c)) (λ j. (start_of base j ≡ start_of t j) × (length_of base j ≡ length_of t j))
        (λ j e. others_alike j (eqb-false j c (not-true (eqb j c) e))) js

    base_counts : length (displaced base n) ≡ elsewhere_by (start_of t) (length_of t) 0 (without c js)
    base_counts =
        walk_counts (order_of_lem (base_ok ok c low x strict rests) base_lies)
        ∙ walk_alike (start_of t) (length_of t) (start_of base) (length_of base) c 0 (without c js) others_same

    base_top : top_of base n ≡ top_by (start_of t) (length_of t) (without c js)
    base_top =
        top_same (start_of base) (length_of base) (filled base n) (without c js) (λ i. sym (base_lies.same i))
        ∙ top_alike (start_of t) (length_of t) (start_of base) (length_of base) c (without c js) others_same

    pub unpacked_is : (v : Value) → leaf d x ≡ v → sum_after d c x t ≤ length t.store → length (displaced (bytes_put n c v base) n)
        ≡ unpacked_by (elsewhere_by (start_of t) (length_of t) 0 (without c js)) (top_by (start_of t) (length_of t) (without c js)) (sum (set t.lengths c 0)) (length v) (length t.store)
    unpacked_is [] e fits = base_counts
    unpacked_is (b ∷ bs) e fits = go (leb (length (b ∷ bs)) (length t.store - top_of base n)) refl ∙ ends
      where
        there : ℕ
        there = elsewhere_by (start_of t) (length_of t) 0 (without c js)

        total : ℕ
        total = sum (set t.lengths c 0)

        top : ℕ
        top = top_by (start_of t) (length_of t) (without c js)

        go : (q : Bool) → leb (length (b ∷ bs)) (length t.store - top_of base n) ≡ q
            → length (displaced (placed_at (top_of (pick q base (packed_whole n base)) n) c (b ∷ bs) (pick q base (packed_whole n base))) n)
            ≡ pick q (there + pick (eqb (top_of base n) total) 0 1) 0
        go true q =
            put_counts (moved_none (base_ok ok c low x strict rests)) (b ∷ bs) e (omega arith) (omega (arith, leb-true (length (b ∷ bs)) (length t.store - top_of base n) q))
            ∙ ap (λ (k : ℕ). k + pick (eqb (top_of base n) total) 0 1) base_counts
        go false q =
            let sound : TableOk d n base = base_ok ok c low x strict rests in
            let w = packed-whole sound in
            let at : eqb (top_of (packed_whole n base) n) (sum (packed_whole n base).lengths) ≡ true =
            eq-eqb (top_of (packed_whole n base) n) (sum (packed_whole n base).lengths) (w.top ∙ sym (ap sum w.moved.lengths)) in
            put_counts w.moved (b ∷ bs) e (omega arith) (omega (arith, w.top, w.moved.size, fits, ap length e))
            ∙ ap₂ (λ (k : ℕ) (b : Bool). k + pick b 0 1) (ap length w.left) at

        ends : pick (leb (length (b ∷ bs)) (length t.store - top_of base n)) (there + pick (eqb (top_of base n) total) 0 1) 0
            ≡ unpacked_by there (top_by (start_of t) (length_of t) (without c js)) total (length (b ∷ bs)) (length t.store)
        ends =
            ap (λ (top : ℕ). pick (leb (length (b ∷ bs)) (length t.store - top)) (there + pick (eqb top total) 0 1) 0) base_top
            ∙ ap (λ (q : Bool). pick q (pick (leb (length (b ∷ bs)) (length t.store - top)) (there + pick (eqb top total) 0 1) 0) there)
            (sym (lt-ltb 0 (length (b ∷ bs)) (omega arith)))
