-- The index of ragged values, over the width and the place: the loop over its offsets, the answers of the check, the
-- reader by positions, and the limit.
-- Assumes nothing.
use mathlib.Core.Path.{◌≡◌, refl, sym, ap, ap₂, ◌∙◌}
use mathlib.Core.List.{List, [], ◌∷◌, map}
use mathlib.Core.Bool.{Bool, true, false, not, ◌&&◌, and-true, and-false}
use Prim.Native.Nat.{ℕ, zero, suc, ◌+◌, ◌-◌, ◌*◌, ◌≤◌, ◌<◌}
use native.Mathlib.Omega.{arith}
use native.Mathlib.Nat.{suc-mul, zero-mul, mul_comm}
use native.Mathlib.Numerals.{sub-one}
use lib.Dec.{leb, ltb, eqb}
use lib.ListN.{length, take, drop, length-drop}
use lib.Seq.{take-nil, drop-drop, take-take, take_all, length-take-le}
use borrow.Author.Tests.{le-leb, lt-leb, eq-eqb, ne_eqb, eqb-true, leb-true, ltb-true, ltb-false}
use Rattle.array.specs.Answer.{Answer, gives, refuses, unless, and_then, map_answer}
use Rattle.array.specs.Limits.{most_bytes}
use Rattle.array.specs.Lists.{pieces}
use Rattle.array.specs.Bytes.{unle}
use Rattle.array.specs.Kind.{Place, at_start, at_end}
use Rattle.array.specs.declared.kind.IndexWidth.{IndexWidth}
use Rattle.array.specs.declared.kind.IndexWidth.TheVariants.{Four, Eight}
use Rattle.array.specs.Meaning.{width_of}
use Rattle.array.specs.Offsets.{last, rising_test, rising_from_test}
use Rattle.array.specs.Content.{RaggedContent, size_test}
use Rattle.codec.specs.Ragged.{check_ragged, get_ragged, part_of, left_of, length_at, index_at, data_at}
use Rattle.stored_index.specs.declared.Index.{Index}
use Rattle.stored_index.specs.Index.{offsets_in, open_by, read_by, indexed_by, index_check, index_in, limited, last_in, located, found_in, checked_in}

pub width_most : (w : IndexWidth) → width_of w ≤ 8
width_most Four = omega arith
width_most Eight = omega arith

pub times_less : (k w : ℕ) → 0 < k → k * w ≡ (k - 1) * w + w
times_less zero w h = absurd (omega arith)
times_less (suc k) w h = suc-mul k w ∙ ap (λ (j : ℕ). j * w + w) (sym (sub-one (suc k)))

pub index_size : (w n : ℕ) → w * suc n ≡ w + n * w
index_size w n = mul_comm w (suc n) ∙ suc-mul n w ∙ add
  where
    add : n * w + w ≡ w + n * w
    add = omega arith

-- ---- the loop that looks for a falling offset, and the first one

pub record Rises (w n : ℕ) (s : List ℕ) (at first prev p left : ℕ) : Type 0 where
  pub room : p + (w + left * w) ≤ length s
  pub rest : rising_test (offsets_in w (suc n) (drop at s)) ≡ eqb first 0 && rising_from_test prev (offsets_in w left (drop (p + w) s))

pub rises_start : (w n : ℕ) (s : List ℕ) (at : ℕ) {first : ℕ} → first ≡ unle (take w (drop at s)) → at + (w + n * w) ≤ length s → Rises w n s at first first at n
rises_start w n s at e h = record { room = h; rest = ap₂ (λ (a : ℕ) (q : List ℕ). eqb a 0 && rising_from_test a (offsets_in w n q)) (sym e) (drop-drop w at s) }

module _ {w n : ℕ} {s : List ℕ} {at first prev p left : ℕ} (r : Rises w n s at first prev p left) where
  abbrev all : Bool
  all = rising_test (offsets_in w (suc n) (drop at s))

  module _ (h : 0 < left) where
    pub rises_room : p + w + w + (left - 1) * w ≤ length s
    rises_room = omega (arith, r.room, times_less left w h)

    -- the next offset, and those behind it
    module _ {next : ℕ} (e : next ≡ unle (take w (drop (p + w) s))) where
      abbrev behind : Bool
      behind = rising_from_test next (offsets_in w (left - 1) (drop (p + w + w) s))

      next_is : all ≡ eqb first 0 && (leb prev next && behind)
      next_is = r.rest ∙ ap (λ (b : Bool). eqb first 0 && b) (go left h)
        where
          go : (k : ℕ) → 0 < k → rising_from_test prev (offsets_in w k (drop (p + w) s)) ≡ leb prev next && rising_from_test next (offsets_in w (k - 1) (drop (p + w + w) s))
          go zero f = absurd (omega arith)
          go (suc k) f =
              ap₂ (λ (a : ℕ) (q : List ℕ). leb prev a && rising_from_test a (offsets_in w k q)) (sym e) (drop-drop w (p + w) s)
              ∙ ap (λ (j : ℕ). leb prev next && rising_from_test next (offsets_in w j (drop (p + w + w) s))) (sym (sub-one (suc k)))

      by_next : {t : Bool} → leb prev next ≡ t → all ≡ eqb first 0 && (t && behind)
      by_next et = next_is ∙ ap (λ (t : Bool). eqb first 0 && (t && behind)) et

      pub rises_falls : next < prev → false ≡ all
      rises_falls f = sym (by_next (lt-leb prev next f) ∙ and-false (eqb first 0))

      pub rises_more : prev ≤ next → Rises w n s at first next (p + w) (left - 1)
      rises_more f = record { room = omega (arith, rises_room); rest = by_next (le-leb prev next f) }

      -- with one left, its offset decides
      pub rises_last : first ≤ 0 → left ≡ 1 → leb prev next ≡ all
      rises_last z f =
          let none : left - 1 ≡ 0 = omega arith in
          sym (next_is ∙ ap₂ (λ (b : Bool) (k : ℕ). b && (leb prev next && rising_from_test next (offsets_in w k (drop (p + w + w) s)))) (eq-eqb first 0 (omega arith)) none
          ∙ and-true (leb prev next))

  -- by the first offset
  by_first : {t : Bool} → eqb first 0 ≡ t → all ≡ t && rising_from_test prev (offsets_in w left (drop (p + w) s))
  by_first et = r.rest ∙ ap (λ (t : Bool). t && rising_from_test prev (offsets_in w left (drop (p + w) s))) et

  pub rises_not : 0 < first → false ≡ all
  rises_not f = sym (by_first (ne_eqb first 0 (λ z. absurd (omega arith))))

  -- the same of a width that is as wide
  pub rises_never : 0 < first → {v : ℕ} → w ≡ v → false ≡ rising_test (offsets_in v (suc n) (drop at s))
  rises_never f e = rises_not f ∙ ap (λ (v : ℕ). rising_test (offsets_in v (suc n) (drop at s))) e

  pub rises_end : first ≤ 0 → left ≡ 0 → true ≡ all
  rises_end z e = sym (by_first (eq-eqb first 0 (omega arith)) ∙ ap (λ (k : ℕ). rising_from_test prev (offsets_in w k (drop (p + w) s))) e)

-- ---- the last offset

last_in_lem : (w n : ℕ) (q : List ℕ) → last (offsets_in w (suc n) q) ≡ unle (take w (drop (n * w) q))
last_in_lem w zero q = ap (λ (k : ℕ). unle (take w (drop k q))) (sym (zero-mul w))
last_in_lem w (suc n) q =
    let e : w + n * w ≡ suc n * w = omega (arith, suc-mul n w) in
    last_in_lem w n (drop w q) ∙ ap (λ (l : List ℕ). unle (take w l)) (drop-drop (n * w) w q ∙ ap (λ (k : ℕ). drop k q) e)

pub last_at : (w n : ℕ) (s : List ℕ) (at : ℕ) {v : ℕ} → v ≡ unle (take w (drop (at + n * w) s)) → v ≡ last (offsets_in w (suc n) (drop at s))
last_at w n s at e = e ∙ sym (last_in_lem w n (drop at s) ∙ ap (λ (l : List ℕ). unle (take w l)) (drop-drop (n * w) at s))

-- ---- the limit

pub over_limit : (n : ℕ) → ltb most_bytes n ≡ not (size_test n)
over_limit n = go (ltb most_bytes n) refl
  where
    go : (b : Bool) → ltb most_bytes n ≡ b → b ≡ not (size_test n)
    go true e = ap not (sym (lt-leb n most_bytes (ltb-true most_bytes n e)))
    go false e = ap not (sym (le-leb n most_bytes (ltb-false most_bytes n e)))

-- ---- the answers of the check, by what was found

module _ (os : List ℕ) (k : ℕ) {l : ℕ} (el : l ≡ last os) where
  pub by_data : (l ≡ k → ⊥) → refuses 8 ≡ indexed_by os k
  unfolding indexed_by
  by_data f = rw (ne_eqb (last os) k (λ e. f (el ∙ e)))

  module _ (ek : l ≡ k) where
    pub by_rising : rising_test os ≡ false → refuses 10 ≡ indexed_by os k
    unfolding indexed_by
    by_rising e = rw (eq-eqb (last os) k (sym el ∙ ek), e)

    pub by_last : rising_test os ≡ true → gives l ≡ indexed_by os k
    unfolding indexed_by
    by_last e = ap gives el ∙ rw (eq-eqb (last os) k (sym el ∙ ek), e)

-- ---- the reader, by positions

pub drop-take : (x y : ℕ) (q : List ℕ) → drop x (take (x + y) q) ≡ take y (drop x q)
drop-take zero y q = ap (λ (k : ℕ). take k q) zero_plus
  where
    zero_plus : 0 + y ≡ y
    zero_plus = omega arith
drop-take (suc x) y [] = ap (drop (suc x)) (take-nil (suc x + y)) ∙ sym (take-nil y)
drop-take (suc x) y (a ∷ q) = ap (λ (k : ℕ). drop (suc x) (take k (a ∷ q))) plus ∙ drop-take x y q
  where
    plus : suc x + y ≡ suc (x + y)
    plus = omega arith

pub pieces-take : (w n : ℕ) (q : List ℕ) → pieces w n (take (n * w) q) ≡ pieces w n q
pieces-take w zero q = refl
pieces-take w (suc n) q =
    let e : suc n * w ≡ w + n * w = omega (arith, suc-mul n w) in
    ap (λ (k : ℕ). pieces w (suc n) (take k q)) e
    ∙ ap₂ (λ (a : List ℕ) (r : List (List ℕ)). a ∷ r) (take-take w (w + n * w) q (omega arith)) (ap (pieces w n) (drop-take w (n * w) q) ∙ pieces-take w n (drop w q))

-- any check of the offsets and the data of q
module _ {A : Type 0} (check : List ℕ → List ℕ → Answer A) (w n : ℕ) (q : List ℕ) where
  -- taken by their positions
  abbrev pub checked_at : Place → Answer A
  checked_at p =
      check (offsets_in w (suc n) (drop (index_at p (length q) (w + n * w)) q)) (take (length q - 8 - (w + n * w)) (drop (data_at p (w + n * w)) q))

  pub read_none : (p : Place) → length q < 8 → refuses 7 ≡ read_by check w p q n
  read_none p h = sym (ap (λ (b : Bool). unless b 7 (open_by check w p (unle (part_of p 8 q)) (left_of p 8 q) n)) (lt-leb 8 (length q) h))

  module _ (h : 8 ≤ length q) where
    opens : (p : Place) → read_by check w p q n ≡ open_by check w p (unle (part_of p 8 q)) (left_of p 8 q) n
    opens p = ap (λ (b : Bool). unless b 7 (open_by check w p (unle (part_of p 8 q)) (left_of p 8 q) n)) (le-leb 8 (length q) h)

    left_long : (p : Place) → length (left_of p 8 q) ≡ length q - 8
    left_long at_start = length-drop 8 q
    left_long at_end = length-take-le (length q - 8) q (omega arith)

    pub read_short : length q - 8 < w + n * w → (p : Place) → refuses 8 ≡ read_by check w p q n
    read_short f p = sym (opens p ∙ no (unle (part_of p 8 q)) (length (left_of p 8 q)) _ (omega (arith, left_long p)))
      where
        -- an index that does not fit is refused, whatever its length says
        no : (l k : ℕ) (a : Answer A) → k < w + n * w → unless (leb l k) 8 (unless (eqb l (w * suc n)) 8 a) ≡ refuses 8
        no l k a f = by (leb l k) (eqb l (w * suc n)) refl refl
          where
            by : (b c : Bool) → leb l k ≡ b → eqb l (w * suc n) ≡ c → unless b 8 (unless c 8 a) ≡ refuses 8
            by false c eb ec = refl
            by true false eb ec = refl
            by true true eb ec = absurd (omega (arith, leb-true l k eb, eqb-true l (w * suc n) ec, index_size w n))

    module _ (f : w + n * w ≤ length q - 8) where
      -- the index length is the index's, or the refusal is 8
      by_length : (l : ℕ) {k : ℕ} (a b : Answer A) → k ≡ length q - 8 → (l ≡ w * suc n → a ≡ b) → unless (leb l k) 8 (unless (eqb l (w * suc n)) 8 a) ≡ unless (eqb l (w + n * w)) 8 b
      by_length l {k} a b ek g = go (eqb l (w * suc n)) refl
        where
          same : eqb l (w + n * w) ≡ eqb l (w * suc n)
          same = ap (eqb l) (sym (index_size w n))

          no : (c : Bool) → ◌≡◌ {A = Answer A} (unless c 8 (refuses 8)) (refuses 8)
          no true = refl
          no false = refl

          go : (c : Bool) → eqb l (w * suc n) ≡ c → unless (leb l k) 8 (unless (eqb l (w * suc n)) 8 a) ≡ unless (eqb l (w + n * w)) 8 b
          go true e =
              let el : l ≡ w * suc n = eqb-true l (w * suc n) e in
              let lk : l ≤ k = omega (arith, index_size w n) in
              ap₂ (λ (x y : Bool). unless x 8 (unless y 8 a)) (le-leb l k lk) e ∙ g el ∙ sym (ap (λ (y : Bool). unless y 8 b) (same ∙ e))
          go false e = ap (λ (y : Bool). unless (leb l k) 8 (unless y 8 a)) e ∙ no (leb l k) ∙ sym (ap (λ (y : Bool). unless y 8 b) (same ∙ e))

      pub read_at_lem : (p : Place) → read_by check w p q n ≡ unless (eqb (unle (take 8 (drop (length_at p (length q)) q))) (w + n * w)) 8 (checked_at p)
      read_at_lem p = opens p ∙ go p
        where
          go : (p : Place) → open_by check w p (unle (part_of p 8 q)) (left_of p 8 q) n ≡ unless (eqb (unle (take 8 (drop (length_at p (length q)) q))) (w + n * w)) 8 (checked_at p)
          go at_start =
              by_length (unle (take 8 q)) _ _ (left_long at_start)
              (λ e.
              let e1 : unle (take 8 q) ≡ suc n * w = e ∙ mul_comm w (suc n) in
              let e2 : 8 + unle (take 8 q) ≡ 8 + (w + n * w) = omega (arith, index_size w n) in
              let a1 : offsets_in w (suc n) (take (unle (take 8 q)) (drop 8 q)) ≡ offsets_in w (suc n) (drop 8 q) =
              ap (λ (k : ℕ). offsets_in w (suc n) (take k (drop 8 q))) e1 ∙ ap (map unle) (pieces-take w (suc n) (drop 8 q)) in
              let a2 : drop (unle (take 8 q)) (drop 8 q) ≡ drop (8 + (w + n * w)) q = drop-drop (unle (take 8 q)) 8 q ∙ ap (λ (k : ℕ). drop k q) e2 in
              let a3 : take (length q - 8 - (w + n * w)) (drop (8 + (w + n * w)) q) ≡ drop (8 + (w + n * w)) q =
              take_all (length q - 8 - (w + n * w)) (drop (8 + (w + n * w)) q) (omega (arith, length-drop (8 + (w + n * w)) q)) in
              ap₂ check a1 (a2 ∙ sym a3))
          go at_end =
              let t : List ℕ = take (length q - 8) q in
              let lt : length t ≡ length q - 8 = left_long at_end in
              let b : take 8 (drop (length q - 8) q) ≡ drop (length q - 8) q = take_all 8 (drop (length q - 8) q) (omega (arith, length-drop (length q - 8) q)) in
              by_length (unle (drop (length q - 8) q)) _ (checked_at at_end) lt
              (λ e.
              let x : ℕ = length q - 8 - (w + n * w) in
              let ex : length t - unle (drop (length q - 8) q) ≡ x = omega (arith, index_size w n) in
              let ey : length q - 8 ≡ x + suc n * w = omega (arith, suc-mul n w) in
              let a1 : drop (length t - unle (drop (length q - 8) q)) t ≡ take (suc n * w) (drop x q) = ap₂ (λ (i j : ℕ). drop i (take j q)) ex ey ∙ drop-take x (suc n * w) q in
              let a2 : offsets_in w (suc n) (drop (length t - unle (drop (length q - 8) q)) t) ≡ offsets_in w (suc n) (drop x q) =
              ap (offsets_in w (suc n)) a1 ∙ ap (map unle) (pieces-take w (suc n) (drop x q)) in
              let a3 : take (length t - unle (drop (length q - 8) q)) t ≡ take x q = ap (λ (i : ℕ). take i t) ex ∙ take-take x (length q - 8) q (omega arith) in
              ap₂ check a2 a3)
              ∙ ap (λ (m : List ℕ). unless (eqb (unle m) (w + n * w)) 8 (checked_at at_end)) (sym b)

-- ---- the index, found by positions

pub length-within : (p : Place) (m : ℕ) → 8 ≤ m → length_at p m + 8 ≤ m
length-within at_start m h = omega arith
length-within at_end m h = omega arith

pub length_short : (p : Place) (m : ℕ) → m - length_at p m < 8 → m < 8
length_short at_start m h = omega arith
length_short at_end m h = omega arith

module _ (w n : ℕ) (s : List ℕ) (at : ℕ) (h : 8 ≤ length s - at) (f : w + n * w ≤ length s - at - 8) (p : Place) where
  abbrev i : ℕ
  i = w + n * w

  -- where the index lies, and how many bytes of data there are
  abbrev there : ℕ
  there = at + index_at p (length s - at) (w + n * w)

  abbrev count : ℕ
  count = length s - at - 8 - (w + n * w)

  found_at : unless (eqb (unle (take 8 (drop (at + length_at p (length s - at)) s))) i) 8 (indexed_by (offsets_in w (suc n) (drop there s)) count) ≡ index_in w p (drop at s) n
  unfolding index_in
  found_at =
      let q : List ℕ = drop at s in
      let lq : length q ≡ length s - at = length-drop at s in
      let af : drop (at + length_at p (length s - at)) s ≡ drop (length_at p (length q)) q = ap (λ (l : ℕ). drop (at + length_at p l) s) (sym lq) ∙ sym (drop-drop (length_at p (length q)) at s) in
      let ai : drop there s ≡ drop (index_at p (length q) i) q = ap (λ (l : ℕ). drop (at + index_at p l i) s) (sym lq) ∙ sym (drop-drop (index_at p (length q) i) at s) in
      let d : List ℕ = take (length q - 8 - i) (drop (data_at p i) q) in
      let ld : length d ≡ count =
      length-take-le (length q - 8 - i) (drop (data_at p i) q) (omega (arith, length-drop (data_at p i) q, data_room p (length q) i (omega arith))) ∙ ap (λ (l : ℕ). l - 8 - i) lq in
      ap₂ (λ (x y : List ℕ). unless (eqb (unle (take 8 x)) i) 8 (indexed_by (offsets_in w (suc n) y) count)) af ai
      ∙ ap (λ (j : ℕ). unless (eqb (unle (take 8 (drop (length_at p (length q)) q))) i) 8 (indexed_by (offsets_in w (suc n) (drop (index_at p (length q) i) q)) j)) (sym ld)
      ∙ sym (read_at_lem index_check w n q (omega arith) (omega arith) p)
    where
      data_room : (p : Place) (l i : ℕ) → i ≤ l - 8 → l - 8 - i ≤ l - data_at p i
      data_room at_start l i h = omega arith
      data_room at_end l i h = omega arith

  -- by the index length that was read
  module _ {l : ℕ} (e : l ≡ unle (take 8 (drop (at + length_at p (length s - at)) s))) where
    pub found_other : (l ≡ w + n * w → ⊥) → refuses 8 ≡ index_in w p (drop at s) n
    found_other g = ap (λ (b : Bool). unless b 8 (indexed_by (offsets_in w (suc n) (drop there s)) count)) (sym (ne_eqb _ i (λ q. g (e ∙ q)))) ∙ found_at

    pub found_index : l ≡ w + n * w → indexed_by (offsets_in w (suc n) (drop there s)) count ≡ index_in w p (drop at s) n
    found_index g = ap (λ (b : Bool). unless b 8 (indexed_by (offsets_in w (suc n) (drop there s)) count)) (sym (eq-eqb _ i (sym e ∙ g))) ∙ found_at

-- ---- what the reader gives has the index that was found, and few enough bytes

check_limited : (os d : List ℕ) → limited (index_check os d) ≡ last_in (check_ragged os d)
unfolding indexed_by
check_limited os d = go (eqb (last os) (length d)) (rising_test os) (size_test (last os)) refl
  where
    go : (a b c : Bool) → size_test (last os) ≡ c
        → limited (unless a 8 (unless b 10 (gives (last os)))) ≡ last_in (unless a 8 (unless b 10 (unless c 5 (gives (record { values = d; offsets = os })))))
    go true true true e = ap (λ (t : Bool). unless t 5 (gives (last os))) e
    go true true false e = ap (λ (t : Bool). unless t 5 (gives (last os))) e
    go true false c e = refl
    go false b c e = refl

index_limited : (w : ℕ) (p : Place) (s : List ℕ) (n : ℕ) → limited (index_in w p s n) ≡ last_in (get_ragged w p s n)
unfolding index_in get_ragged
index_limited w p s n =
    let l : ℕ = unle (part_of p 8 s) in
    let r : List ℕ = left_of p 8 s in
    let os : List ℕ = offsets_in w (suc n) (part_of p l r) in
    let d : List ℕ = left_of p l r in
    go (index_check os d) (check_ragged os d) (leb 8 (length s)) (leb l (length r)) (eqb l (w * suc n)) (check_limited os d)
  where
    go : (x : Answer ℕ) (y : Answer RaggedContent) (a b c : Bool) → limited x ≡ last_in y
        → limited (unless a 7 (unless b 8 (unless c 8 x))) ≡ last_in (unless a 7 (unless b 8 (unless c 8 y)))
    go x y true true true e = e
    go x y true true false e = refl
    go x y true false c e = refl
    go x y false b c e = refl

-- the same of the whole index
abbrev pub limited_index : Answer Index → Answer Index
limited_index a = and_then a (λ i. unless (size_test i.last) 5 (gives i))

pub found-limited : (w : ℕ) (p : Place) (s : List ℕ) (at n : ℕ) → limited_index (found_in w p s at n) ≡ checked_in w p s at n
unfolding found_in checked_in
found-limited w p s at n = go (index_in w p (drop at s) n) ∙ ap (map_answer (located w p s at n)) (index_limited w p (drop at s) n)
  where
    go : (a : Answer ℕ) → limited_index (map_answer (located w p s at n) a) ≡ map_answer (located w p s at n) (limited a)
    go (refuses e) = refl
    go (gives l) = by (size_test l)
      where
        by : (b : Bool) → unless b 5 (gives (located w p s at n l)) ≡ map_answer (located w p s at n) (unless b 5 (gives l))
        by true = refl
        by false = refl
