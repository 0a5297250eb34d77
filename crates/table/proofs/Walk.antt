-- A walk over the cells of a table in the order in which they lie: where each is packed, and what moving them one by one comes to.
-- Assumes nothing.
use mathlib.Core.Path.{◌≡◌, refl, sym, ap, ap₂, ◌∙◌, subst}
use mathlib.Core.Bool.{Bool, true, false, not}
use mathlib.Core.List.{List, [], ◌∷◌, ◌++◌, map, append_assoc, append-nil}
use Prim.Native.Nat.{ℕ, suc, ◌+◌, ◌≤◌, ◌<◌}
use native.Mathlib.Omega.{arith}
use native.Mathlib.Nat.{min-le_right}
use lib.ListN.{length, take, drop, length-append, length-take, length-drop, length-set, take-append-drop, drop_of_length-le}
use lib.Seq.{take-add, take_all, take_at, get_or-set_other}
use lib.Dec.{leb, ltb, eqb}
use borrow.Author.Tests.{lt-ltb, le-ltb, eq-eqb, ne_eqb}
use Rattle.array.specs.Lists.{pick, from, passing, All}
use Rattle.array.specs.Places.{sum}
use Rattle.array.proofs.Lists.{All-map, map-append, length_from_lem}
use Rattle.array.proofs.Places.{sum-append}
use Rattle.array.proofs.Over.{over_at_length}
use Rattle.array.proofs.Geometry.{passing-append, passing_all, passing_none}
use Rattle.table.specs.Table.{Table, TableOk, start_of, length_of, bytes_of, Placed, ending, filled}
use Rattle.table.specs.Lying.{put_among, lying_by, packed_at, packed_start, displaced, move_to, move_all, moved_cells, packed, packed_whole}
use Rattle.table.specs.Order.{Follow, Lies}
use Rattle.table.specs.Meaning.{table_by}
use Rattle.table.specs.Walk.{InOrder, Moved, elsewhere_by}
use Rattle.table.proofs.Order.{All-passing, All-filled, lies_all, lies_some, lies_below, lies_follow, lying_lies, follow_above}

-- ---- lists

module _ {A : Type 0} (P : A → Type 0) where
  All-left : (xs ys : List A) → All P (xs ++ ys) → All P xs
  All-left [] ys p = tt
  All-left (x ∷ xs) ys p = (p.0, All-left xs ys p.1)

  All-right : (xs ys : List A) → All P (xs ++ ys) → All P ys
  All-right [] ys p = p
  All-right (x ∷ xs) ys p = All-right xs ys p.1

-- ---- the order in which they lie

module _ (start len : ℕ → ℕ) where
  -- the lengths of those that pass a test
  abbrev bytes : (ℕ → Bool) → List ℕ → ℕ
  bytes f js = sum (map len (passing f js))

  bytes_cons : (f : ℕ → Bool) (j : ℕ) (js : List ℕ) → bytes f (j ∷ js) ≡ pick (f j) (len j) 0 + bytes f js
  bytes_cons f j js = go (f j)
    where
      go : (b : Bool) → sum (map len (pick b (j ∷ passing f js) (passing f js))) ≡ pick b (len j) 0 + bytes f js
      go true = refl
      go false = omega arith

  put_bytes : (f : ℕ → Bool) (j : ℕ) (is : List ℕ) → bytes f (put_among start len j is) ≡ bytes f (j ∷ is)
  put_bytes f j [] = refl
  put_bytes f j (i ∷ is) = go (leb (start j) (start i)) (put_bytes f j is)
    where
      go : (b : Bool) → bytes f (put_among start len j is) ≡ bytes f (j ∷ is) → bytes f (pick b (j ∷ i ∷ is) (i ∷ put_among start len j is)) ≡ bytes f (j ∷ i ∷ is)
      go true e = refl
      go false e = omega (arith, bytes_cons f i (put_among start len j is), bytes_cons f j is, bytes_cons f j (i ∷ is), bytes_cons f i is)

  lying_bytes : (f : ℕ → Bool) (js : List ℕ) → bytes f (lying_by start len js) ≡ bytes f js
  lying_bytes f [] = refl
  lying_bytes f (j ∷ js) = put_bytes f j (lying_by start len js) ∙ omega (arith, bytes_cons f j (lying_by start len js), bytes_cons f j js, lying_bytes f js)

  -- ---- one that stands between two parts of the list

  follow_right : (at : ℕ) (xs : List ℕ) (j : ℕ) (ys : List ℕ) → Follow start len at (xs ++ j ∷ ys) → Follow start len (ending start len j) ys
  follow_right at [] j ys f = f.1
  follow_right at (x ∷ xs) j ys f = follow_right (ending start len x) xs j ys f.1

  -- those before it lie lower
  follow-before : (at : ℕ) (xs : List ℕ) (j : ℕ) (ys : List ℕ) → Follow start len at (xs ++ j ∷ ys) → All (λ i. 0 < len i) xs → All (λ i. start i < start j) xs
  follow-before at [] j ys f p = tt
  follow-before at (x ∷ xs) j ys f p =
      let h : ending start len x ≤ start j = (All-right (λ i. ending start len x ≤ start i) xs (j ∷ ys) (follow_above start len (ending start len x) (xs ++ j ∷ ys) f.1)).0 in
      (omega (arith, p.0), follow-before (ending start len x) xs j ys f.1 p.1)

  -- and have no more bytes than there is room for before it
  follow_room : (at : ℕ) (xs : List ℕ) (j : ℕ) (ys : List ℕ) → Follow start len at (xs ++ j ∷ ys) → at + sum (map len xs) ≤ start j
  follow_room at [] j ys f = omega (arith, f.0)
  follow_room at (x ∷ xs) j ys f = omega (arith, f.0, follow_room (ending start len x) xs j ys f.1)

  -- its packed start is the sum of their lengths
  between : (xs : List ℕ) (j : ℕ) (ys : List ℕ) → Follow start len 0 (xs ++ j ∷ ys) → All (λ i. 0 < len i) (xs ++ j ∷ ys)
      → packed_at start len (xs ++ j ∷ ys) j ≡ sum (map len xs)
  between xs j ys f p =
      ap (λ (l : List ℕ). sum (map len l)) (passing-append lower xs (j ∷ ys) ∙ ap₂ ◌++◌ (passing_all lower xs before) (passing_none lower (j ∷ ys) after) ∙ append-nil xs)
    where
      lower : ℕ → Bool
      lower i = ltb (start i) (start j)

      before : All (λ i. ltb (start i) (start j) ≡ true) xs
      before =
          All-map (λ i. start i < start j) (λ i. ltb (start i) (start j) ≡ true) (λ i h. lt-ltb (start i) (start j) h) xs
          (follow-before 0 xs j ys f (All-left (λ i. 0 < len i) xs (j ∷ ys) p))

      after : All (λ i. ltb (start i) (start j) ≡ false) (j ∷ ys)
      after = (
        le-ltb (start j) (start j) (omega arith),
        All-map (λ i. ending start len j ≤ start i) (λ i. ltb (start i) (start j) ≡ false) (λ i h. le-ltb (start i) (start j) (omega arith)) ys
            (follow_above start len (ending start len j) ys (follow_right 0 xs j ys f)),
      )

-- ---- cells moved one after another

abbrev with_masks : List ℕ → Table → Table
with_masks m t = table_by m t.starts t.lengths t.store

module _ (to : ℕ → ℕ) where
  pub move_append : (js ks : List ℕ) (t : Table) → move_all to (js ++ ks) t ≡ move_all to ks (move_all to js t)
  move_append [] ks t = refl
  move_append (j ∷ js) ks t = move_append js ks (move_to (to j) j t)

  -- a cell that is not among them starts where it did
  pub move_others : (js : List ℕ) (t : Table) (j : ℕ) → All (λ i. i ≡ j → ⊥) js → start_of (move_all to js t) j ≡ start_of t j
  move_others [] t j p = refl
  move_others (i ∷ js) t j p = move_others js (move_to (to i) i t) j p.1 ∙ get_or-set_other t.starts i j (to i) 0 (λ e. p.0 (sym e))

  -- masks have no part in it
  pub move_masks : (m : List ℕ) (js : List ℕ) (t : Table) → move_all to js (with_masks m t) ≡ with_masks m (move_all to js t)
  move_masks m [] t = refl
  move_masks m (j ∷ js) t = move_masks m js (move_to (to j) j t)

-- ---- the walk

-- the packed start of a cell of js, the cells of t as they lie: where the bytes of those before it end
packed_here : {n : ℕ} {t : Table} {js : List ℕ} → InOrder n t js → (xs : List ℕ) (j : ℕ) (ys : List ℕ) → js ≡ xs ++ j ∷ ys → packed_start t n j ≡ sum (map (length_of t) xs)
packed_here {n} {t} {js} o xs j ys split =
    let start = start_of t in
    let len = length_of t in
    let lies : Lies start len n js = subst (Lies start len n) (sym o.lying) (lying_lies start len n) in
    sym (lying_bytes start len (λ k. ltb (start k) (start j)) (filled t n))
    ∙ ap (λ (l : List ℕ). packed_at start len l j) (sym o.lying ∙ split)
    ∙ between start len xs j ys (subst (Follow start len 0) split o.follow) (subst (All (λ k. 0 < len k)) split (lies_some lies))

-- cell j starts elsewhere than where it is packed
abbrev elsewhere : ℕ → Table → ℕ → Bool
elsewhere n t j = not (eqb (start_of t j) (packed_start t n j))

-- those of them among the first i of a list
abbrev first_moved : ℕ → Table → List ℕ → ℕ → List ℕ
first_moved n t js i = passing (elsewhere n t) (take i js)

-- of the cells js of t, as they lie, the first i are packed, with no more moved than may be: u is the table then, and `to` the place of the next
pub record Moving (most n : ℕ) (t : Table) (js : List ℕ) (u : Table) (i to moved : ℕ) : Type 0 where
  pub within : i ≤ length js
  pub few : moved ≤ most
  pub place : to ≡ sum (map (length_of t) (take i js))
  pub counted : moved ≡ length (first_moved n t js i)
  pub here : u ≡ move_all (packed_start t n) (first_moved n t js i) t
  pub size : length u.store ≡ length t.store
  pub cells : length u.starts ≡ length t.starts

pub moving_begins : {most n : ℕ} {t : Table} {js : List ℕ} → Moving most n t js t 0 0 0
moving_begins = record { within = omega arith; few = omega arith; place = refl; counted = refl; here = refl; size = refl; cells = refl }

module _ {most n : ℕ} {t : Table} {js : List ℕ} {u : Table} {i to moved : ℕ} (o : InOrder n t js) (m : Moving most n t js u i to moved) where
  lies : Lies (start_of t) (length_of t) n js
  lies = subst (Lies (start_of t) (length_of t) n) (sym o.lying) (lying_lies (start_of t) (length_of t) n)

  all_moved : displaced t n ≡ first_moved n t js i ++ passing (elsewhere n t) (drop i js)
  all_moved =
      ap (passing (elsewhere n t)) (sym o.lying ∙ sym (take-append-drop i js)) ∙ passing-append (elsewhere n t) (take i js) (drop i js)

  -- it ends when as many are moved as may be, or behind the last cell
  pub moving_full : most ≤ moved → moved_cells most n t ≡ first_moved n t js i
  moving_full h =
      ap (take most) all_moved ∙ take_at (first_moved n t js i) (passing (elsewhere n t) (drop i js)) most (omega (arith, m.counted, m.few))

  pub moving_ends : length js ≤ i → moved_cells most n t ≡ first_moved n t js i
  moving_ends h =
      ap (take most) (all_moved ∙ ap (λ (l : List ℕ). first_moved n t js i ++ passing (elsewhere n t) l) (drop_of_length-le js h) ∙ append-nil (first_moved n t js i))
      ∙ take_all most (first_moved n t js i) (omega (arith, m.counted, m.few))

  -- the next cell
  module _ {j : ℕ} {rest : List ℕ} (next : drop i js ≡ j ∷ rest) where
    split : js ≡ take i js ++ j ∷ rest
    split = sym (take-append-drop i js) ∙ ap (λ (l : List ℕ). take i js ++ l) next

    follows : Follow (start_of t) (length_of t) 0 (take i js ++ j ∷ rest)
    follows = subst (Follow (start_of t) (length_of t) 0) split o.follow

    have : All (λ k. 0 < length_of t k) (take i js ++ j ∷ rest)
    have = subst (All (λ k. 0 < length_of t k)) split (lies_some lies)

    packed_is : packed_start t n j ≡ to
    packed_is = packed_here o (take i js) j rest split ∙ sym m.place

    kept : start_of u j ≡ start_of t j
    kept =
        ap (λ (v : Table). start_of v j) m.here
        ∙ move_others (packed_start t n) (first_moved n t js i) t j
        (All-passing (elsewhere n t) (λ k. k ≡ j → ⊥) (take i js)
        (All-map (λ k. start_of t k < start_of t j) (λ k. k ≡ j → ⊥) (λ k l e. omega (arith, ap (start_of t) e)) (take i js)
        (follow-before (start_of t) (length_of t) 0 (take i js) j rest follows (All-left (λ k. 0 < length_of t k) (take i js) (j ∷ rest) have))))

    pub next_below : j < n
    next_below = (All-right (λ k. k < n) (take i js) (j ∷ rest) (subst (All (λ k. k < n)) split (lies_below lies))).0

    pub next_room : to ≤ start_of u j
    next_room = omega (arith, kept, m.place, follow_room (start_of t) (length_of t) 0 (take i js) j rest follows)

    pub next_fits : start_of u j + length_of t j ≤ length u.store
    next_fits =
        let e : ending (start_of t) (length_of t) j ≤ length t.store =
        (All-right (λ k. ending (start_of t) (length_of t) k ≤ length t.store) (take i js) (j ∷ rest)
        (subst (All (λ k. ending (start_of t) (length_of t) k ≤ length t.store)) split o.ends)).0 in
        omega (arith, kept, m.size)

    one_more : take (i + 1) js ≡ take i js ++ (j ∷ [])
    one_more = take-add i 1 js ∙ ap (λ (l : List ℕ). take i js ++ take 1 l) next

    place_after : to + length_of t j ≡ sum (map (length_of t) (take (i + 1) js))
    place_after =
        let e : sum (map (length_of t) (take (i + 1) js)) ≡ sum (map (length_of t) (take i js)) + (length_of t j + 0) =
        ap (λ (l : List ℕ). sum (map (length_of t) l)) one_more ∙ ap sum (map-append (length_of t) (take i js) (j ∷ [])) ∙ sum-append (map (length_of t) (take i js)) (length_of t j ∷ []) in
        omega (arith, m.place)

    moved_after : first_moved n t js (i + 1) ≡ first_moved n t js i ++ passing (elsewhere n t) (j ∷ [])
    moved_after = ap (passing (elsewhere n t)) one_more ∙ passing-append (elsewhere n t) (take i js) (j ∷ [])

    -- it lies where it is packed
    pub moving_stays : start_of u j ≡ to → Moving most n t js u (i + 1) (to + length_of t j) moved
    moving_stays e =
        let f : first_moved n t js (i + 1) ≡ first_moved n t js i =
        moved_after
        ∙ ap (λ (b : Bool). first_moved n t js i ++ pick (not b) (j ∷ []) []) (eq-eqb (start_of t j) (packed_start t n j) (omega (arith, kept, packed_is)))
        ∙ append-nil (first_moved n t js i) in
        record {
          within = omega (arith, ap length next, length-drop i js);
          few = m.few;
          place = place_after;
          counted = m.counted ∙ ap length (sym f);
          here = m.here ∙ ap (λ (l : List ℕ). move_all (packed_start t n) l t) (sym f);
          size = m.size;
          cells = m.cells;
        }

    fits : to + length (bytes_of u j) ≤ length u.store
    fits =
        let behind : List ℕ = drop (start_of u j) u.store in
        omega (arith, next_room, next_fits, length-take (length_of u j) behind, min-le_right (length_of u j) (length behind), length-drop (start_of u j) u.store)

    -- it is moved there
    pub moving_moves : (start_of u j ≡ to → ⊥) → moved < most → Moving most n t js (move_to to j u) (i + 1) (to + length_of t j) (moved + 1)
    moving_moves e l =
        let f : first_moved n t js (i + 1) ≡ first_moved n t js i ++ (j ∷ []) =
        moved_after
        ∙ ap (λ (b : Bool). first_moved n t js i ++ pick (not b) (j ∷ []) []) (ne_eqb (start_of t j) (packed_start t n j) (λ p. e (kept ∙ p ∙ packed_is))) in
        record {
          within = omega (arith, ap length next, length-drop i js);
          few = omega arith;
          place = place_after;
          counted = omega (arith, m.counted, ap length f, length-append (first_moved n t js i) (j ∷ []));
          here =
              ap₂ (λ (p : ℕ) (v : Table). move_to p j v) (sym packed_is) m.here ∙ sym (move_append (packed_start t n) (first_moved n t js i) (j ∷ []) t)
              ∙ ap (λ (l : List ℕ). move_all (packed_start t n) l t) (sym f);
          size = over_at_length to (bytes_of u j) u.store fits ∙ m.size;
          cells = length-set u.starts j to ∙ m.cells;
        }

-- the same in other words
pub moving_is : {most n : ℕ} {t : Table} {js m s l b : List ℕ} {i to moved : ℕ} → Moving most n t js (table_by m s l b) i to moved
    → {s' b' : List ℕ} {moved' : ℕ} → s' ≡ s → b' ≡ b → moved' ≡ moved → Moving most n t js (table_by m s' l b') i to moved'
moving_is {most} {n} {t} {js} {m} {s} {l} {b} {i} {to} {moved} c {s'} {b'} e f g =
    subst (λ (r : ℕ). Moving most n t js (table_by m s' l b') i to r) (sym g)
    (subst (λ (u : Table). Moving most n t js u i to moved) (sym (ap₂ (λ (x y : List ℕ). table_by m x l y) e f)) c)

-- what it leaves in starts and store
pub moving_leaves : {most n : ℕ} {s l b js s' b' : List ℕ} {i to moved : ℕ} → Moving most n (table_by [] s l b) js (table_by [] s' l b') i to moved
    → moved_cells most n (table_by [] s l b) ≡ first_moved n (table_by [] s l b) js i → Moved most n s l b moved s' b'
unfolding packed
moving_leaves {most} {n} {s} {l} {b} c e =
    let t : Table = table_by [] s l b in
    record {
      counted = c.counted ∙ ap length (sym e);
      table = λ m. ap (with_masks m) (c.here ∙ ap (λ (js : List ℕ). move_all (packed_start t n) js t) (sym e)) ∙ sym (move_masks (packed_start t n) m (moved_cells most n t) t);
    }

-- ---- all of them

pub packed-whole : (k n : ℕ) (t : Table) → length (displaced t n) ≤ k → packed k n t ≡ packed_whole n t
unfolding packed packed_whole
packed-whole k n t h = ap (λ (js : List ℕ). move_all (packed_start t n) js t) (take_all k (displaced t n) h)

passing_most : {A : Type 0} (f : A → Bool) (xs : List A) → length (passing f xs) ≤ length xs
passing_most f [] = omega arith
passing_most f (x ∷ xs) = go (f x) (passing_most f xs)
  where
    go : (c : Bool) → length (passing f xs) ≤ length xs → length (pick c (x ∷ passing f xs) (passing f xs)) ≤ suc (length xs)
    go true h = omega arith
    go false h = omega arith

module _ (start len : ℕ → ℕ) where
  put-length : (j : ℕ) (is : List ℕ) → length (put_among start len j is) ≡ suc (length is)
  put-length j [] = refl
  put-length j (i ∷ is) = go (leb (start j) (start i)) (put-length j is)
    where
      go : (c : Bool) → length (put_among start len j is) ≡ suc (length is) → length (pick c (j ∷ i ∷ is) (i ∷ put_among start len j is)) ≡ suc (suc (length is))
      go true e = refl
      go false e = ap suc e

  pub lying_length : (js : List ℕ) → length (lying_by start len js) ≡ length js
  lying_length [] = refl
  lying_length (j ∷ js) = put-length j (lying_by start len js) ∙ ap suc (lying_length js)

pub displaced_most : (n : ℕ) (t : Table) → length (displaced t n) ≤ n
displaced_most n t =
    omega (
      arith,
      passing_most (elsewhere n t) (lying_by (start_of t) (length_of t) (filled t n)),
      lying_length (start_of t) (length_of t) (filled t n),
      passing_most (λ j. ltb 0 (length_of t j)) (from 0 n),
      length_from_lem 0 n,
    )

-- ---- the cells of a table that keeps the rules, in the order in which they lie

pub in_order : {d n : ℕ} {t : Table} {js : List ℕ} → TableOk d n t → js ≡ lying_by (start_of t) (length_of t) (filled t n) → InOrder n t js
in_order {d} {n} {t} {js} ok e =
    let start = start_of t in
    let len = length_of t in
    let size = length t.store in
    let l : Lies start len n js = subst (Lies start len n) (sym e) (lying_lies start len n) in
    record {
      lying = e;
      follow = lies_follow l ok.apart;
      ends =
          lies_all l (λ j. ending start len j ≤ size)
          (All-filled start len n (λ j. ending start len j ≤ size) (All-map (λ j. Placed size (start j) (len j)) (λ j. ending start len j ≤ size) (λ j p. p.0) (from 0 n) ok.placed));
    }

-- ---- how many start elsewhere, counted on the way

pub walk_counts : {n : ℕ} {t : Table} {js : List ℕ} → InOrder n t js → length (displaced t n) ≡ elsewhere_by (start_of t) (length_of t) 0 js
walk_counts {n} {t} {js} o = ap (λ (l : List ℕ). length (passing (elsewhere n t) l)) (sym o.lying) ∙ go [] js refl
  where
    one : (b : Bool) (j : ℕ) (zs : List ℕ) → length (pick (not b) (j ∷ zs) zs) ≡ pick b 0 1 + length zs
    one true j zs = omega arith
    one false j zs = omega arith

    go : (xs ys : List ℕ) → js ≡ xs ++ ys → length (passing (elsewhere n t) ys) ≡ elsewhere_by (start_of t) (length_of t) (sum (map (length_of t) xs)) ys
    go xs [] e = refl
    go xs (j ∷ ys) e =
        let at = sum (map (length_of t) xs) in
        let here : eqb (start_of t j) (packed_start t n j) ≡ eqb (start_of t j) at = ap (eqb (start_of t j)) (packed_here o xs j ys e) in
        let behind : sum (map (length_of t) (xs ++ (j ∷ []))) ≡ at + length_of t j =
        omega (arith, ap sum (map-append (length_of t) xs (j ∷ [])), sum-append (map (length_of t) xs) (length_of t j ∷ [])) in
        let rest : length (passing (elsewhere n t) ys) ≡ elsewhere_by (start_of t) (length_of t) (at + length_of t j) ys =
        go (xs ++ (j ∷ [])) ys (e ∙ sym (append_assoc xs (j ∷ []) ys)) ∙ ap (λ (a : ℕ). elsewhere_by (start_of t) (length_of t) a ys) behind in
        one (eqb (start_of t j) (packed_start t n j)) j (passing (elsewhere n t) ys) ∙ ap₂ (λ (b : Bool) (m : ℕ). pick b 0 1 + m) here rest
