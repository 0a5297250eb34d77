-- The place of a cell in a subset, side by side: what holds at the head of the loop that finds it, and a turn of it.
-- Assumes nothing.
use mathlib.Core.Path.{◌≡◌, refl, sym, ap, ap₂, ◌∙◌}
use mathlib.Core.Logic.{◌≢◌}
use Prim.Native.Nat.{ℕ, zero, suc, ◌+◌, ◌-◌, ◌*◌, ◌/◌, ◌%◌, ◌<◌, ◌≤◌}
use native.Mathlib.Numerals.{add-one}
use native.Mathlib.Nat.{zero-add, mul-zero, add_assoc, zero-mul, suc-mul, mul-one, one-mul, add-mul, mul_assoc, mul_comm, mul-le-mul_left, mul-le-mul_right, div-add-mod', mod-lt}
use native.Mathlib.Omega.{arith}
use mathlib.Core.Bool.{Bool, true, false}
use mathlib.Core.List.{List, [], ◌∷◌, ◌++◌, map}
use lib.ListN.{length, get_or, drop, length-map}
use lib.Dec.{eqb}
use lib.Seq.{drop-cons}
use borrow.Author.Tests.{eq-eqb, ne_eqb, eqb-true, eqb-false}
use Rattle.std.specs.Prelude.{Option, None, Some}
use Rattle.std.proofs.lemmas.Nat.{div-mul-add}
use Rattle.array.specs.Lists.{from, pick, All}
use Rattle.array.specs.Shape.{volume, ShapeOk}
use Rattle.array.specs.Subset.{Subset, lengths, pairs, SubsetOk, rows, cells_in}
use Rattle.array.specs.Rows.{Within}
use Rattle.array.proofs.SubsetLaws.{length-cells_in, cells_in_below}
use Rattle.migrate_cells.specs.Place.{later, place_in}

-- ---- places further on, or elsewhere

abbrev pub or_else : Option ℕ → Option ℕ → Option ℕ
or_else (Some p) o = Some p
or_else None o = o

pub later_zero : (o : Option ℕ) → later 0 o ≡ o
later_zero None = refl
later_zero (Some p) = ap Some (zero-add p)

later_later : (a b : ℕ) (o : Option ℕ) → later a (later b o) ≡ later (a + b) o
later_later a b None = refl
later_later a b (Some p) = ap Some (sym (add_assoc a b p))

or_none : (o : Option ℕ) → or_else o None ≡ o
or_none None = refl
or_none (Some p) = refl

place-append : (xs ys : List ℕ) (j : ℕ) → place_in (xs ++ ys) j ≡ or_else (place_in xs j) (later (length xs) (place_in ys j))
place-append [] ys j = sym (later_zero (place_in ys j))
place-append (x ∷ xs) ys j = go (eqb j x) (place_in xs j) (place-append xs ys j)
  where
    go : (b : Bool) (o : Option ℕ) → place_in (xs ++ ys) j ≡ or_else o (later (length xs) (place_in ys j))
        → pick b (Some 0) (later 1 (place_in (xs ++ ys) j)) ≡ or_else (pick b (Some 0) (later 1 o)) (later (suc (length xs)) (place_in ys j))
    go true o ih = refl
    go false (Some p) ih = ap (later 1) ih
    go false None ih =
        let one : 1 + length xs ≡ suc (length xs) = omega arith in
        ap (later 1) ih ∙ later_later 1 (length xs) (place_in ys j) ∙ ap (λ (k : ℕ). later k (place_in ys j)) one

-- a place is one of the list's, and the number stands there
pub place_there : (xs : List ℕ) (j p : ℕ) → place_in xs j ≡ Some p → (p < length xs) × (get_or xs p 0 ≡ j)
place_there [] j p e = absurd (never e)
  where
    never : ◌≡◌ {A = Option ℕ} None (Some p) → ⊥
    never q = cc
place_there (x ∷ xs) j p e = go (eqb j x) refl (place_in xs j) (λ q. place_there xs j q) e
  where
    go : (b : Bool) → eqb j x ≡ b → (o : Option ℕ) → ((q : ℕ) → o ≡ Some q → (q < length xs) × (get_or xs q 0 ≡ j)) → pick b (Some 0) (later 1 o) ≡ Some p
        → (p < length (x ∷ xs)) × (get_or (x ∷ xs) p 0 ≡ j)
    go true t o ih e =
        let z : 0 ≡ p = cc in
        (omega arith, ap (λ (k : ℕ). get_or (x ∷ xs) k 0) (sym z) ∙ sym (eqb-true j x t))
    go false t None ih e = absurd (no_place e)
      where
        no_place : ◌≡◌ {A = Option ℕ} None (Some p) → ⊥
        no_place q = cc
    go false t (Some q) ih e =
        let z : 1 + q ≡ p = cc in
        let z' : suc q ≡ p = omega arith in
        let i = ih q refl in
        (omega arith, ap (λ (k : ℕ). get_or (x ∷ xs) k 0) (sym z') ∙ i.1)

-- ---- rows of v cells

pub same_eqb : (a b c d : ℕ) → (a ≡ b → c ≡ d) → (c ≡ d → a ≡ b) → eqb a b ≡ eqb c d
same_eqb a b c d f g = go (eqb c d) refl
  where
    go : (x : Bool) → eqb c d ≡ x → eqb a b ≡ x
    go true e = eq-eqb a b (g (eqb-true c d e))
    go false e = ne_eqb a b (λ p. eqb-false c d e (f p))

module _ (v y : ℕ) (h : y < v) where
  -- in its own row, by its place there
  row_same : (i : ℕ) (js : List ℕ) → place_in (map (λ j. i * v + j) js) (i * v + y) ≡ place_in js y
  row_same i [] = refl
  row_same i (j ∷ js) =
      ap₂ (λ (b : Bool) (o : Option ℕ). pick b (Some 0) (later 1 o)) (same_eqb (i * v + y) (i * v + j) y j (λ e. omega (arith, e)) (λ e. ap (λ (k : ℕ). i * v + k) e)) (row_same i js)

  -- and in no other
  row_other : (i x : ℕ) (js : List ℕ) → All (λ j. j < v) js → i ≢ x → place_in (map (λ j. i * v + j) js) (x * v + y) ≡ None
  row_other i x [] a f = refl
  row_other i x (j ∷ js) a f =
      rw (ne_eqb (x * v + y) (i * v + j) (λ e. f (sym (div-mul-add i v j a.0) ∙ ap (λ (k : ℕ). k / v) (sym e) ∙ div-mul-add x v y h)))
      (ap (later 1) (row_other i x js a.1 f))

  module _ (js : List ℕ) (a : All (λ j. j < v) js) (x : ℕ) where
    pub rows_out : (b n : ℕ) → ((i : ℕ) → b ≤ i → i < b + n → i ≢ x) → place_in (rows v (from b n) js) (x * v + y) ≡ None
    rows_out b zero f = refl
    rows_out b (suc n) f =
        place-append (map (λ j. b * v + j) js) (rows v (from (suc b) n) js) (x * v + y)
        ∙ ap₂ (λ (p q : Option ℕ). or_else p (later (length (map (λ j. b * v + j) js)) q)) (row_other b x js a (f b (omega arith) (omega arith)))
        (rows_out (suc b) n (λ i l k. f i (omega arith) (omega arith)))

    pub rows_in : (b n : ℕ) → b ≤ x → x < b + n → place_in (rows v (from b n) js) (x * v + y) ≡ later ((x - b) * length js) (place_in js y)
    rows_in b zero l k = absurd (omega arith)
    rows_in b (suc n) l k = place-append (map (λ j. b * v + j) js) (rows v (from (suc b) n) js) (x * v + y) ∙ go (eqb x b) refl (λ p. rows_in (suc b) n p (omega arith))
      where
        long : length (map (λ j. b * v + j) js) ≡ length js
        long = length-map js (λ j. b * v + j)

        go : (t : Bool) → eqb x b ≡ t → (suc b ≤ x → place_in (rows v (from (suc b) n) js) (x * v + y) ≡ later ((x - suc b) * length js) (place_in js y))
            → or_else (place_in (map (λ j. b * v + j) js) (x * v + y)) (later (length (map (λ j. b * v + j) js)) (place_in (rows v (from (suc b) n) js) (x * v + y)))
            ≡ later ((x - b) * length js) (place_in js y)
        go true e ih =
            let p : x ≡ b = eqb-true x b e in
            let none : x - b ≡ 0 = omega arith in
            ap₂ (λ (o q : Option ℕ). or_else o (later (length (map (λ j. b * v + j) js)) q))
            (ap (λ (k : ℕ). place_in (map (λ j. b * v + j) js) (k * v + y)) p ∙ row_same b js)
            (rows_out (suc b) n (λ i l k. omega arith))
            ∙ or_none (place_in js y) ∙ sym (later_zero (place_in js y))
            ∙ ap (λ (k : ℕ). later k (place_in js y)) (sym (zero-mul (length js)) ∙ ap (λ (k : ℕ). k * length js) (sym none))
        go false e ih =
            let f : x ≢ b = eqb-false x b e in
            let more : suc b ≤ x = omega arith in
            let one : x - b ≡ suc (x - suc b) = omega arith in
            ap₂ (λ (o q : Option ℕ). or_else o (later (length (map (λ j. b * v + j) js)) q)) (row_other b x js a (λ q. f (sym q))) (ih more)
            ∙ later_later (length (map (λ j. b * v + j) js)) ((x - suc b) * length js) (place_in js y)
            ∙ ap (λ (k : ℕ). later k (place_in js y)) (omega (arith, long, suc-mul (x - suc b) (length js), ap (λ (k : ℕ). k * length js) one))

-- ---- the loop: the first k sides are done, `left` counts in the others

pub record Finding (sh st ls : List ℕ) (cell k inner left place : ℕ) : Type 0 where
  pub within : k ≤ length sh
  pub vol : inner ≡ volume (drop k sh)
  pub some : All (λ s. 1 ≤ s) (drop k sh)
  pub inside : SubsetOk (drop k sh) (pairs (drop k st) (drop k ls))
  pub below : left < volume (drop k sh)
  pub small : (place + 1) * inner ≤ volume sh
  pub same : place_in (cells_in sh (pairs st ls)) cell
      ≡ later (place * volume (lengths (pairs (drop k st) (drop k ls)))) (place_in (cells_in (drop k sh) (pairs (drop k st) (drop k ls))) left)

module _ {sh st ls : List ℕ} (o : ShapeOk sh) (f : Within sh st ls) {cell : ℕ} where
  pub finding_begins : {inner : ℕ} → cell < volume sh → inner ≡ volume sh → Finding sh st ls cell 0 inner cell 0
  finding_begins {inner} h e = record {
    within = omega arith;
    vol = e;
    some = o.sides;
    inside = f.inside;
    below = h;
    small = omega (arith, e, one-mul inner);
    same = sym (ap (λ (k : ℕ). later k (place_in (cells_in sh (pairs st ls)) cell)) (zero-mul (volume (lengths (pairs st ls)))) ∙ later_zero (place_in (cells_in sh (pairs st ls)) cell));
  }

  module _ {k inner left place : ℕ} (c : Finding sh st ls cell k inner left place) where
    abbrev whole : Option ℕ
    whole = place_in (cells_in sh (pairs st ls)) cell

    module _ (h : k < length sh) where
      abbrev s : ℕ
      s = get_or sh k 0

      abbrev a : ℕ
      a = get_or st k 0

      abbrev n : ℕ
      n = get_or ls k 0

      abbrev ss : List ℕ
      ss = drop (k + 1) sh

      abbrev bs : Subset
      bs = pairs (drop (k + 1) st) (drop (k + 1) ls)

      abbrev v : ℕ
      v = volume ss

      abbrev x : ℕ
      x = left / (inner / s)

      abbrev y : ℕ
      y = left % (inner / s)

      next : (xs : List ℕ) → k < length xs → drop k xs ≡ get_or xs k 0 ∷ drop (k + 1) xs
      next xs l = drop-cons xs k 0 l ∙ ap (λ (i : ℕ). get_or xs k 0 ∷ drop i xs) (sym (add-one k))

      fs : drop k sh ≡ s ∷ ss
      fs = next sh h

      fa : drop k st ≡ a ∷ drop (k + 1) st
      fa = next st (omega (arith, f.as_many_starts))

      fl : drop k ls ≡ n ∷ drop (k + 1) ls
      fl = next ls (omega (arith, f.as_many_lengths))

      sides : All (λ i. 1 ≤ i) (s ∷ ss)
      sides = rw fs at c.some

      inside : (a + n ≤ s) × SubsetOk ss bs
      inside = rw (fs, fa, fl) at c.inside

      inner_is : inner ≡ s * v
      inner_is = c.vol ∙ ap volume fs

      inner-next : inner / s ≡ v
      inner-next =
          let e : inner ≡ v * s + 0 = omega (arith, inner_is, mul_comm s v) in
          ap (λ (i : ℕ). i / s) e ∙ div-mul-add v s 0 sides.0

      below : left < s * v
      below = omega (arith, c.below, ap volume fs)

      some : 1 ≤ v
      some = go v below
        where
          go : (w : ℕ) → left < s * w → 1 ≤ w
          go zero l = absurd (omega (arith, mul-zero s))
          go (suc w) l = omega arith

      y_small : y < v
      y_small = rw inner-next (mod-lt left some)

      parts : left ≡ x * v + y
      parts = rw inner-next (sym (div-add-mod' left v))

      abbrev js : List ℕ
      js = cells_in ss bs

      js_below : All (λ j. j < v) js
      js_below = cells_in_below ss bs inside.1

      here : whole ≡ later (place * (n * volume (lengths bs))) (place_in (rows v (from a n) js) (x * v + y))
      here =
          c.same ∙ rw (fs, fa, fl) refl
          ∙ ap (λ (i : ℕ). later (place * (n * volume (lengths bs))) (place_in (rows v (from a n) js) i)) parts

      none : ((i : ℕ) → a ≤ i → i < a + n → i ≢ x) → None ≡ whole
      none g = sym (here ∙ ap (later (place * (n * volume (lengths bs)))) (rows_out v y y_small js js_below x a n g))

      pub finding_before : x < a → None ≡ whole
      finding_before g = none (λ i l m e. omega arith)

      pub finding_beyond : a ≤ x → n ≤ x - a → None ≡ whole
      finding_beyond l g = none (λ i m r e. omega arith)

      module _ (l : a ≤ x) (g : x - a < n) where
        row_more : place * n + (x - a) + 1 ≤ (place + 1) * n
        row_more = omega arith

        row_most : (place + 1) * n ≤ (place + 1) * s
        row_most = mul-le-mul_left (place + 1) (omega (arith, inside.0))

        more_small : (place * n + (x - a) + 1) * v ≤ volume sh
        more_small =
            let first : (place * n + (x - a) + 1) * v ≤ (place + 1) * n * v = mul-le-mul_right v row_more in
            let second : (place + 1) * n * v ≤ (place + 1) * s * v = mul-le-mul_right v row_most in
            omega (arith, first, second, c.small, mul_assoc (place + 1) s v, ap (λ (i : ℕ). (place + 1) * i) inner_is)

        pub finding_fits : place * n + (x - a) < volume sh
        finding_fits = omega (arith, more_small, mul-le-mul_left (place * n + (x - a) + 1) some, mul-one (place * n + (x - a) + 1))

        pub finding_more : Finding sh st ls cell (k + 1) (inner / s) (left % (inner / s)) (place * n + (x - a))
        finding_more =
            let counted : length js ≡ volume (lengths bs) = length-cells_in ss bs inside.1 in
            record {
              within = omega arith;
              vol = inner-next;
              some = sides.1;
              inside = inside.1;
              below = y_small;
              small = ap≤ inner-next more_small;
              same = here ∙ ap (later (place * (n * volume (lengths bs)))) (rows_in v y y_small js js_below x a n l (omega arith))
                  ∙ later_later (place * (n * volume (lengths bs))) ((x - a) * length js) (place_in js y)
                  ∙ ap (λ (i : ℕ). later i (place_in js y)) (sums counted);
            }
          where
            ap≤ : {i : ℕ} → i ≡ v → (place * n + (x - a) + 1) * v ≤ volume sh → (place * n + (x - a) + 1) * i ≤ volume sh
            ap≤ e t = rw e t

            sums : length js ≡ volume (lengths bs) → place * (n * volume (lengths bs)) + (x - a) * length js ≡ (place * n + (x - a)) * volume (lengths bs)
            sums e =
                ap (λ (i : ℕ). place * (n * volume (lengths bs)) + (x - a) * i) e
                ∙ ap (λ (i : ℕ). i + (x - a) * volume (lengths bs)) (sym (mul_assoc place n (volume (lengths bs))))
                ∙ sym (add-mul (place * n) (x - a) (volume (lengths bs)))
