-- Writing the values of a plane's cells: what is left to write, run by run.
-- Assumes nothing.
use mathlib.Core.Path.{◌≡◌, refl, sym, ap, ap₂, ◌∙◌, subst}
use mathlib.Core.Bool.{Bool}
use mathlib.Core.List.{List, [], ◌∷◌, ◌++◌, map, append-nil}
use Prim.Native.Nat.{ℕ, zero, suc, ◌+◌, ◌-◌, ◌*◌, ◌≤◌, ◌<◌}
use native.Mathlib.Omega.{arith}
use native.Mathlib.Nat.{zero-add, zero-mul, one-mul, suc-mul, add-mul, mul-le-mul_right}
use lib.ListN.{length, take, drop, get_or, replicate, length-drop, length-map, length-replicate, drop_of_length-le}
use lib.Seq.{length-take-le, drop-cons, take_all}
use borrow.Author.Tests.{lt-ltb, le-ltb}
use Rattle.array.specs.Lists.{pick, pieces}
use Rattle.array.specs.Bytes.{le}
use Rattle.array.specs.Kind.{Order, ordered}
use Rattle.array.specs.Cells.{Value, Mark, is_null, is_set, is_other, mark_of}
use Rattle.array.specs.Buffers.{over, over_at}
use Rattle.array.proofs.Lists.{Sized, length-joined, length-pieces}
use Rattle.array.proofs.Sizes.{length-ordered}
use Rattle.array.proofs.Laying.{Laying, laying_begins, laying_same, laying_ends, laying_part, laying_is}
use Rattle.codec.specs.Frame.{count_by, count_set}
use Rattle.codec.specs.Spread.{spread}
use Rattle.codec.proofs.Marks.{count-le, count_block}
use Rattle.codec.proofs.SpreadLaws.{length-spread}
use Rattle.word.proofs.Words.{le-zero}
use Rattle.decode_marks.specs.Next.{if_set, next_at, word_at}
use Rattle.decode_words.specs.Values.{ValuesWithin}
use Rattle.decode_words.proofs.ValueRuns.{cells_left, values_left, nulls_first, sets_first}

-- ---- the sizes

sized-ordered : (o : Order) (size n : ℕ) (q : List ℕ) → n * size ≤ length q → Sized size (map (ordered o) (pieces size n q))
sized-ordered o size zero q h = tt
sized-ordered o size (suc n) q h =
    let e : suc n * size ≡ n * size + size = suc-mul n size in
    (length-ordered o (take size q) ∙ length-take-le size q (omega arith), sized-ordered o size n (drop size q) (omega (arith, length-drop size q)))

sized-spread : (z : Value) {size : ℕ} (p : List ℕ) (vs : List Value) → length z ≡ size → Sized size vs → Sized size (spread z p vs)
sized-spread z [] vs e h = tt
sized-spread z {size} (zero ∷ p) vs e h = (e, sized-spread z p vs e h)
sized-spread z {size} (suc zero ∷ p) [] e h = (e, sized-spread z p [] e tt)
sized-spread z {size} (suc zero ∷ p) (v ∷ vs) e h = (h.0, sized-spread z p vs e h.1)
sized-spread z {size} (suc (suc m) ∷ p) vs e h = (e, sized-spread z p vs e h)

module _ (size : ℕ) (o : Order) where
  pub cells_length : (s : List ℕ) (n at : ℕ) → at + n * size ≤ length s → length (cells_left size o s n at) ≡ n * size
  cells_length s n at h =
      length-joined size (map (ordered o) (pieces size n (drop at s))) (sized-ordered o size n (drop at s) (omega (arith, length-drop at s)))
      ∙ ap (λ (k : ℕ). k * size) (length-map (pieces size n (drop at s)) (ordered o) ∙ length-pieces size n (drop at s))

  pub values_length_lem : (p s : List ℕ) (at : ℕ) → at + count_set p * size ≤ length s → length (values_left size o p s 0 at) ≡ length p * size
  values_length_lem p s at h =
      let vs : List Value = map (ordered o) (pieces size (count_set p) (drop at s)) in
      length-joined size (spread (replicate size 0) p vs)
      (sized-spread (replicate size 0) p vs (length-replicate size 0) (sized-ordered o size (count_set p) (drop at s) (omega (arith, length-drop at s))))
      ∙ ap (λ (k : ℕ). k * size) (length-spread (replicate size 0) p vs)

-- ---- i cells of the plane p are written, and k of the stored values are taken, which lie from `at` on

pub record SpreadingValues (size : ℕ) (o : Order) (p s d : List ℕ) (at cells : ℕ) (out : List ℕ) (i k : ℕ) : Type 0 where
  pub room : length p * size ≤ length d
  pub within : i ≤ length p
  pub enough : at + cells * size ≤ length s
  pub count : k + count_set (drop i p) ≡ cells
  pub laid : Laying (values_left size o p s 0 at) d 0 out (i * size) (values_left size o p s i (at + k * size))

values_begin : (size : ℕ) (o : Order) (p s d : List ℕ) (at : ℕ) {cells : ℕ} → length p * size ≤ length d → cells ≡ count_set p → at + cells * size ≤ length s
    → SpreadingValues size o p s d at cells d 0 0
values_begin size o p s d at r e h =
    let l : length (values_left size o p s 0 at) ≡ length p * size = values_length_lem size o p s at (omega (arith, ap (λ (k : ℕ). k * size) e)) in
    let z : 0 ≡ 0 * size = sym (zero-mul size) in
    let a : at ≡ at + 0 * size = omega (arith, zero-mul size) in
    record {
      room = r;
      within = omega arith;
      enough = h;
      count = omega arith;
      laid = laying_is (subst (λ (i : ℕ). Laying (values_left size o p s 0 at) d 0 d i (values_left size o p s 0 at)) z (laying_begins (values_left size o p s 0 at) d 0 (omega arith)))
          (ap (values_left size o p s 0) a);
    }

-- by what the copying rests on
pub values_start : {values plane s : List ℕ} {at size cells : ℕ} → ValuesWithin values plane s at size cells → (o : Order) → SpreadingValues size o plane s values at cells values 0 0
values_start {values} {plane} {s} {at} {size} r o = values_begin size o plane s values at r.room r.count r.stored

module _ {size : ℕ} {o : Order} {p s d : List ℕ} {at cells : ℕ} {out : List ℕ} {i k : ℕ} (v : SpreadingValues size o p s d at cells out i k) where
  pub values_same : length out ≡ length d
  values_same = laying_same (values_left size o p s 0 at) d 0 out (i * size) _ v.laid

  -- a stored value is left, so some cell is
  pub values_inside : k < cells → i < length p
  values_inside h = omega (arith, v.count, count-le (drop i p), length-drop i p)

  -- r cells more
  module _ (r : ℕ) where
    pub values_room : i + r ≤ length p → i * size + r * size ≤ length out
    values_room h = omega (arith, values_same, v.room, mul-le-mul_right size h, add-mul i r size)

    pub values_source : k + r ≤ cells → at + k * size + r * size ≤ length s
    values_source h = omega (arith, v.enough, mul-le-mul_right size h, add-mul k r size)

    -- that are null
    pub values_nulls : i + r ≤ length p → count_set (take r (drop i p)) ≡ 0 → {out' : List ℕ} → out' ≡ over_at (i * size) (replicate (r * size) 0) out
        → SpreadingValues size o p s d at cells out' (i + r) k
    values_nulls h e {out'} eo =
        let j : ℕ = at + k * size in
        let to : (i + r) * size ≡ i * size + length (replicate {A = ℕ} (r * size) 0) = omega (arith, add-mul i r size, length-replicate {A = ℕ} (r * size) 0) in
        record {
          room = v.room;
          within = h;
          enough = v.enough;
          count = omega (arith, v.count, count_block p i r);
          laid = laying_part (values_left size o p s 0 at) d 0 out (i * size) (replicate (r * size) 0) (values_left size o p s (i + r) j)
              (laying_is v.laid (nulls_first size o p s i j r h e)) out'
              (eo ∙ ap (λ (k : ℕ). over_at k (replicate (r * size) 0) out) (sym (zero-add (i * size)))) ((i + r) * size) to;
        }

    -- that are set
    pub values_sets : i + r ≤ length p → count_set (take r (drop i p)) ≡ r → {out' : List ℕ} → out' ≡ over_at (i * size) (cells_left size o s r (at + k * size)) out
        → SpreadingValues size o p s d at cells out' (i + r) (k + r)
    values_sets h e {out'} eo =
        let j : ℕ = at + k * size in
        let g : List ℕ = cells_left size o s r j in
        let c : k + r + count_set (drop (i + r) p) ≡ cells = omega (arith, v.count, count_block p i r) in
        let to : (i + r) * size ≡ i * size + length g = omega (arith, add-mul i r size, cells_length size o s r j (values_source (omega arith))) in
        let ej : j + r * size ≡ at + (k + r) * size = omega (arith, add-mul k r size) in
        record {
          room = v.room;
          within = h;
          enough = v.enough;
          count = c;
          laid = laying_part (values_left size o p s 0 at) d 0 out (i * size) g (values_left size o p s (i + r) (at + (k + r) * size))
              (laying_is v.laid (sets_first size o p s i j r e ∙ ap (λ (j : ℕ). g ++ values_left size o p s (i + r) j) ej)) out'
              (eo ∙ ap (λ (k : ℕ). over_at k g out) (sym (zero-add (i * size)))) ((i + r) * size) to;
        }

  -- all cells that are left
  pub values_rest : {n : ℕ} → length p ≡ n → i * size + (n - i) * size ≤ length out
  values_rest {n} e = values_room (n - i) (omega (arith, v.within))

  -- no cell is left
  values_whole : i ≡ length p → out ≡ over (values_left size o p s 0 at) d
  values_whole e =
      let n : drop i p ≡ [] = drop_of_length-le p {i = i} (omega arith) in
      laying_ends (values_left size o p s 0 at) d 0 out (i * size) (laying_is v.laid (ap (λ (q : List ℕ). values_left size o q s 0 (at + k * size)) n))

-- no stored value is left: the other cells are null
pub values_end : {size : ℕ} {o : Order} {p s d : List ℕ} {at cells : ℕ} {out : List ℕ} {i k : ℕ} → SpreadingValues size o p s d at cells out i k → cells ≤ k
    → {n : ℕ} → length p ≡ n → {out' : List ℕ} → out' ≡ over_at (i * size) (replicate ((n - i) * size) 0) out → out' ≡ over (values_left size o p s 0 at) d
values_end {size} {o} {p} {s} {d} {at} {cells} {out} {i} {k} v h {n = n} en {out' = out'} eo =
    let c : count_set (drop i p) ≡ 0 = omega (arith, v.count) in
    let t : take (n - i) (drop i p) ≡ drop i p = take_all (n - i) (drop i p) (omega (arith, length-drop i p)) in
    let e : i + (n - i) ≡ length p = omega (arith, v.within) in
    values_whole (values_nulls v (n - i) (omega arith) (ap count_set t ∙ c) eo) e

-- all cells are set
pub values_all : {size : ℕ} {o : Order} {p s d : List ℕ} {at cells : ℕ} → SpreadingValues size o p s d at cells d 0 0 → {n : ℕ} → length p ≡ n → cells ≡ n
    → {out : List ℕ} → out ≡ over_at 0 (cells_left size o s n at) d → out ≡ over (values_left size o p s 0 at) d
values_all {size} {o} {p} {s} {d} {at} {cells} v {n = n} en ec {out = out} eo =
    let t : take n p ≡ p = take_all n p (omega arith) in
    let z : 0 ≡ 0 * size = sym (zero-mul size) in
    let a : at ≡ at + 0 * size = omega (arith, zero-mul size) in
    let e : 0 + n ≡ length p = omega arith in
    values_whole (values_sets v n (omega arith) (ap count_set t ∙ omega (arith, v.count)) (eo ∙ ap₂ (λ (i j : ℕ). over_at i (cells_left size o s n j) d) z a)) e

-- ---- the next stored word

module _ (size : ℕ) (o : Order) (s : List ℕ) (at k cells : ℕ) where
  pub word_left : k < cells → word_at size o s at k cells ≡ ordered o (take size (drop (at + k * size) s))
  word_left h = ap (λ (b : Bool). pick b (ordered o (take size (drop (at + k * size) s))) (replicate size 0)) (lt-ltb k cells h)

  pub word_none : cells ≤ k → le size 0 ≡ word_at size o s at k cells
  word_none h = le-zero size ∙ sym (ap (λ (b : Bool). pick b (ordered o (take size (drop (at + k * size) s))) (replicate size 0)) (le-ltb k cells h))

-- ---- one cell more, by its mark

module _ {size : ℕ} {o : Order} {p s d : List ℕ} {at cells : ℕ} {out : List ℕ} {i k : ℕ} (v : SpreadingValues size o p s d at cells out i k) (h : i < length p) where
  first : take 1 (drop i p) ≡ get_or p i 0 ∷ []
  first = ap (take 1) (drop-cons p i 0 h)

  counted : {m : Mark} → m ≡ mark_of (get_or p i 0) → count_set (take 1 (drop i p)) ≡ count_by m 0
  counted e = ap count_set first ∙ ap (λ (m : Mark). count_by m 0) (sym e)

  unset_cell : count_set (take 1 (drop i p)) ≡ 0 → {g : List ℕ} → g ≡ replicate size 0 → {out' : List ℕ} → out' ≡ over_at (i * size) g out → SpreadingValues size o p s d at cells out' (i + 1) k
  unset_cell c {g} eg {out'} eo =
      values_nulls v 1 (omega arith) c (eo ∙ ap (λ (l : List ℕ). over_at (i * size) l out) (eg ∙ ap (λ (k : ℕ). replicate {A = ℕ} k 0) (sym (one-mul size))))

  -- g is the stored value, or zero bytes
  pub values_cell : (m : Mark) → m ≡ mark_of (get_or p i 0) → {g : List ℕ} → g ≡ if_set m (ordered o (take size (drop (at + k * size) s))) (replicate size 0)
      → {out' : List ℕ} → out' ≡ over_at (i * size) g out → SpreadingValues size o p s d at cells out' (i + 1) (next_at m k 1)
  values_cell is_null e {g} eg {out'} eo = unset_cell (counted e) eg eo
  values_cell is_other e {g} eg {out'} eo = unset_cell (counted e) eg eo
  values_cell is_set e {g} eg {out'} eo =
      values_sets v 1 (omega arith) (counted e)
      (eo ∙ ap (λ (l : List ℕ). over_at (i * size) l out) (eg ∙ sym (append-nil (ordered o (take size (drop (at + k * size) s))))))

-- the word w is the stored one, or 0
pub word_cell : (size : ℕ) (m : Mark) {w : ℕ} (x : ℕ) (q : List ℕ) → w ≡ if_set m x 0 → le size x ≡ q → le size w ≡ if_set m q (replicate size 0)
word_cell size m x q ew ex = ap (le size) ew ∙ of_one m ∙ ap₂ (if_set m) ex (le-zero size)
  where
    of_one : (m : Mark) → le size (if_set m x 0) ≡ if_set m (le size x) (le size 0)
    of_one is_null = refl
    of_one is_set = refl
    of_one is_other = refl
