-- A checked index: where it and its data lie, and what the reader gives for it.
-- Assumes nothing.
use mathlib.Core.Path.{◌≡◌, refl, sym, ap, ap₂, ◌∙◌, subst}
use mathlib.Core.List.{List, ◌∷◌}
use mathlib.Core.Bool.{Bool, true, false}
use Prim.Native.Nat.{ℕ, suc, ◌+◌, ◌-◌, ◌*◌, ◌≤◌}
use native.Mathlib.Omega.{arith}
use lib.Dec.{eqb, ltb}
use lib.ListN.{length, take, drop, length-drop}
use lib.Seq.{length-take-le, drop-drop}
use borrow.Author.Tests.{eqb-true, ltb-true, ltb-false}
use Rattle.array.specs.Answer.{Answer, gives, refuses, unless, map_answer}
use Rattle.array.specs.Bytes.{unle}
use Rattle.array.specs.Kind.{Place, at_start, at_end}
use Rattle.array.specs.Offsets.{last, Rising, rising_test}
use Rattle.array.specs.Content.{RaggedContent, size_test}
use Rattle.array.proofs.Rules.{rising_ok}
use Rattle.codec.specs.Ragged.{check_ragged, get_ragged, length_at, index_at, data_at}
use Rattle.stored_index.specs.declared.Index.{Index}
use Rattle.stored_index.specs.Index.{offsets_in, read_by, indexed_by, index_check, index_in, last_in, located, found_in, checked_in, ragged_at, ends_in, IndexWithin}
use Rattle.stored_index.proofs.IndexLaws.{checked_at, read_none, read_short, read_at_lem, limited_index, found-limited}

-- ---- of a part of an answer to the answer

map_refused : {A B : Type 0} (f : A → B) (a : Answer A) (e : ℕ) → map_answer f a ≡ refuses e → a ≡ refuses e
map_refused f (gives x) e h = let z : ◌≡◌ {A = ℕ} 0 1 = cc in absurd (omega arith)
map_refused f (refuses k) e h = cc

record Mapped {A B : Type 0} (f : A → B) (a : Answer A) (b : B) : Type 0 where
  from : A
  gave : a ≡ gives from
  same : f from ≡ b

map-given : {A B : Type 0} (f : A → B) (a : Answer A) (b : B) → map_answer f a ≡ gives b → Mapped f a b
map-given f (gives x) b h = record { from = x; gave = refl; same = cc }
map-given f (refuses k) b h = let z : ◌≡◌ {A = ℕ} 0 1 = cc in absurd (omega arith)

-- what was refused before the limit, and within it, the reader refuses too
pub checked_refused : (w : ℕ) (p : Place) (s : List ℕ) (at n e : ℕ) → checked_in w p s at n ≡ refuses e → get_ragged w p (drop at s) n ≡ refuses e
unfolding checked_in
checked_refused w p s at n e h = map_refused (λ c. last c.offsets) (get_ragged w p (drop at s) n) e (map_refused (located w p s at n) (last_in (get_ragged w p (drop at s) n)) e h)

pub found_refused : (w : ℕ) (p : Place) (s : List ℕ) (at n e : ℕ) → found_in w p s at n ≡ refuses e → get_ragged w p (drop at s) n ≡ refuses e
found_refused w p s at n e h = checked_refused w p s at n e (sym (found-limited w p s at n) ∙ ap limited_index h)

-- ---- a check that was passed

-- what a check that was passed says
record Passes (os d : List ℕ) (l : ℕ) : Type 0 where
  gave : check_ragged os d ≡ unless (size_test l) 5 (gives (record { values = d; offsets = os }))
  last_is : l ≡ last os
  rising : Rising os
  all : l ≡ length d

passes : (os d : List ℕ) (l : ℕ) → index_check os d ≡ gives l → Passes os d l
unfolding indexed_by
passes os d l h = go (eqb (last os) (length d)) (rising_test os) refl refl h
  where
    go : (a b : Bool) → eqb (last os) (length d) ≡ a → rising_test os ≡ b → unless a 8 (unless b 10 (gives (last os))) ≡ gives l → Passes os d l
    go true true ea eb q =
        let el : l ≡ last os = cc in
        record {
          gave = rw (ea, eb) (ap (λ (j : ℕ). unless (size_test j) 5 (gives (record { values = d; offsets = os }))) (sym el));
          last_is = el;
          rising = rising_ok os eb;
          all = el ∙ eqb-true (last os) (length d) ea;
        }
    go true false ea eb q = let z : ◌≡◌ {A = ℕ} 0 1 = cc in absurd (omega arith)
    go false b ea eb q = let z : ◌≡◌ {A = ℕ} 0 1 = cc in absurd (omega arith)

-- ---- by positions

record Fits (w k : ℕ) (q : List ℕ) (p : Place) (l : ℕ) : Type 0 where
  long : 8 ≤ length q
  index_fits : w + k * w ≤ length q - 8
  passed : checked_at index_check w k q p ≡ gives l
  by_position : get_ragged w p q k ≡ checked_at check_ragged w k q p

fits_at : (w k : ℕ) (q : List ℕ) (p : Place) (l : ℕ) → index_in w p q k ≡ gives l → Fits w k q p l
unfolding index_in get_ragged
fits_at w k q p l h = go (ltb (length q) 8) refl
  where
    fits : 8 ≤ length q → (t : Bool) → ltb (length q - 8) (w + k * w) ≡ t → Fits w k q p l
    fits g true e =
        let r : refuses 8 ≡ read_by index_check w p q k = read_short index_check w k q g (ltb-true (length q - 8) (w + k * w) e) p in
        let z : ◌≡◌ {A = ℕ} 0 1 = cc in absurd (omega arith)
    fits g false e =
        let m : w + k * w ≤ length q - 8 = ltb-false (length q - 8) (w + k * w) e in
        by (eqb (unle (take 8 (drop (length_at p (length q)) q))) (w + k * w)) (read_at_lem check_ragged w k q g m p) (sym (read_at_lem index_check w k q g m p) ∙ h) m
      where
        by : (t : Bool) → read_by check_ragged w p q k ≡ unless t 8 (checked_at check_ragged w k q p) → unless t 8 (checked_at index_check w k q p) ≡ gives l
            → w + k * w ≤ length q - 8 → Fits w k q p l
        by true a b m = record { long = g; index_fits = m; passed = b; by_position = a }
        by false a b m = let z : ◌≡◌ {A = ℕ} 0 1 = cc in absurd (omega arith)

    go : (t : Bool) → ltb (length q) 8 ≡ t → Fits w k q p l
    go true e =
        let r : refuses 7 ≡ read_by index_check w p q k = read_none index_check w k q p (ltb-true (length q) 8 e) in
        let z : ◌≡◌ {A = ℕ} 0 1 = cc in absurd (omega arith)
    go false e = fits (ltb-false (length q) 8 e) (ltb (length q - 8) (w + k * w)) refl

-- ---- an index that was found

-- where the reader's answer is r
pub record IndexThere (w : ℕ) (p : Place) (s : List ℕ) (at n : ℕ) (i : Index) (r : Answer RaggedContent) : Type 0 where
  pub cells_are : i.cells ≡ n
  pub within : IndexWithin w s i
  pub offsets_are : offsets_in w (suc i.cells) (drop i.index s) ≡ 0 ∷ ends_in w s i
  pub gave : get_ragged w p (drop at s) n ≡ r

-- before the limit, and within it
abbrev pub IndexFound : ℕ → Place → List ℕ → ℕ → ℕ → Index → Type 0
IndexFound w p s at n i = IndexThere w p s at n i (unless (size_test i.last) 5 (gives (ragged_at w s i)))

abbrev pub IndexChecked : ℕ → Place → List ℕ → ℕ → ℕ → Index → Type 0
IndexChecked w p s at n i = IndexThere w p s at n i (gives (ragged_at w s i))

pub index_within : (p : Place) (m i : ℕ) → 8 ≤ m → i ≤ m - 8 → index_at p m i + i ≤ m
index_within at_start m i h g = omega arith
index_within at_end m i h g = omega arith

pub data-within : (p : Place) (m i : ℕ) → 8 ≤ m → i ≤ m - 8 → data_at p i + (m - 8 - i) ≤ m
data-within at_start m i h g = omega arith
data-within at_end m i h g = omega arith

module _ (w n : ℕ) (s : List ℕ) (at : ℕ) (p : Place) (l : ℕ) (ha : at ≤ length s) (h : index_in w p (drop at s) n ≡ gives l) where
  abbrev size : ℕ
  size = w + n * w

  abbrev bytes : List ℕ
  bytes = drop at s

  abbrev index : ℕ
  index = at + index_at p (length s - at) size

  abbrev from : ℕ
  from = at + data_at p size

  fitted : Fits w n bytes p l
  fitted = fits_at w n bytes p l h

  -- the offsets and the data of the bytes from `at` on, by positions in s
  abbrev offsets : List ℕ
  offsets = offsets_in w (suc n) (drop (index_at p (length bytes) size) bytes)

  abbrev datas : List ℕ
  datas = take (length bytes - 8 - size) (drop (data_at p size) bytes)

  index_drop : drop (index_at p (length bytes) size) bytes ≡ drop index s
  index_drop = drop-drop (index_at p (length bytes) size) at s ∙ ap (λ (j : ℕ). drop (at + index_at p j size) s) (length-drop at s)

  offsets_are : offsets ≡ offsets_in w (suc n) (drop index s)
  offsets_are = ap (offsets_in w (suc n)) index_drop

  checked : Passes offsets datas l
  checked = passes offsets datas l fitted.passed

  rising : Rising (offsets_in w (suc n) (drop index s))
  rising = subst Rising offsets_are checked.rising

  from_zero : offsets_in w (suc n) (drop index s) ≡ 0 ∷ offsets_in w n (drop (index + w) s)
  from_zero = ap₂ (λ (a : ℕ) (q : List ℕ). a ∷ offsets_in w n q) rising.0 (drop-drop w index s)

  datas_long : length datas ≡ length bytes - 8 - size
  datas_long =
      length-take-le (length bytes - 8 - size) (drop (data_at p size) bytes)
      (omega (arith, length-drop (data_at p size) bytes, data-within p (length bytes) size fitted.long fitted.index_fits))

  data_is : datas ≡ take l (drop from s)
  data_is = ap₂ (λ (k : ℕ) (q : List ℕ). take k q) (sym (checked.all ∙ datas_long)) (drop-drop (data_at p size) at s)

  there : IndexFound w p s at n (located w p s at n l)
  there =
      let long : length bytes ≡ length s - at = length-drop at s in
      let m : ℕ = length s - at in
      let inside = index_within p m size (omega (arith, fitted.long)) (omega (arith, fitted.index_fits)) in
      let behind = data-within p m size (omega (arith, fitted.long)) (omega (arith, fitted.index_fits)) in
      record {
        cells_are = refl;
        within = record {
          index_room = omega (arith, inside);
          data_room = omega (arith, behind, checked.all, datas_long);
          first_is = λ _. rising.0;
          rising = (subst Rising from_zero rising).1;
          last_is = checked.last_is ∙ ap last offsets_are ∙ ap last from_zero;
        };
        offsets_are = from_zero;
        gave = fitted.by_position ∙ checked.gave ∙ ap₂ (λ (x y : List ℕ). unless (size_test l) 5 (gives (record { values = y; offsets = x }))) offsets_are data_is;
      }

pub index_found : (w : ℕ) (p : Place) (s : List ℕ) (at n : ℕ) (i : Index) → at ≤ length s → found_in w p s at n ≡ gives i → IndexFound w p s at n i
unfolding found_in
index_found w p s at n i ha h =
    let m = map-given (located w p s at n) (index_in w p (drop at s) n) i h in
    subst (IndexFound w p s at n) m.same (there w n s at p m.from ha m.gave)

-- what was not limited was found, and has few enough bytes
within_limit : (a : Answer Index) (i : Index) → limited_index a ≡ gives i → (a ≡ gives i) × (size_test i.last ≡ true)
within_limit (refuses e) i h = let z : ◌≡◌ {A = ℕ} 0 1 = cc in absurd (omega arith)
within_limit (gives x) i h = go (size_test x.last) refl h
  where
    go : (t : Bool) → size_test x.last ≡ t → unless t 5 (gives x) ≡ gives i → (gives x ≡ gives i) × (size_test i.last ≡ true)
    go true e q = let same : x ≡ i = cc in (q, ap (λ (y : Index). size_test y.last) (sym same) ∙ e)
    go false e q = let z : ◌≡◌ {A = ℕ} 0 1 = cc in absurd (omega arith)

pub index_checked : (w : ℕ) (p : Place) (s : List ℕ) (at n : ℕ) (i : Index) → at ≤ length s → checked_in w p s at n ≡ gives i → IndexChecked w p s at n i
index_checked w p s at n i ha h =
    let t = within_limit (found_in w p s at n) i (found-limited w p s at n ∙ h) in
    subst (IndexThere w p s at n i) (ap (λ (b : Bool). unless b 5 (gives (ragged_at w s i))) t.1) (index_found w p s at n i ha t.0)
