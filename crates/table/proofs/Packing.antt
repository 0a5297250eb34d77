-- What holds of packing (docs/SPEC.md, S13.14): it moves cells and changes none, and so many calls of it leave none to move.
-- Assumes nothing.
use Prim.Native.Nat.{ℕ, zero, suc, ◌*◌, ◌≤◌}
use native.Mathlib.Nat.{suc-mul, zero-mul}
use native.Mathlib.Omega.{arith}
use mathlib.Core.Path.{◌≡◌, refl, sym, ap, ap₂, subst, ◌∙◌}
use mathlib.Core.Bool.{Bool, true, false, not}
use mathlib.Core.List.{List, [], ◌∷◌, map}
use lib.ListN.{length, take, drop, length-drop}
use lib.Seq.{take-length, drop-length}
use lib.Dec.{ltb, eqb}
use borrow.Author.Tests.{lt-ltb, eqb-true, not-false}
use Rattle.array.specs.Answer.{Answer, gives, map_answer}
use Rattle.array.specs.Lists.{from, pick, passing, All}
use Rattle.array.specs.Kind.{Kind}
use Rattle.array.specs.Places.{sum, mask_at, cell_by}
use Rattle.array.specs.Cells.{Value}
use Rattle.array.proofs.Lists.{All-map, All-take}
use Rattle.array.proofs.Geometry.{passing_all}
use Rattle.array.proofs.Answers.{pass}
use Rattle.array.proofs.Rules.{both}
use Rattle.table.specs.Table.{Table, start_of, length_of, cell_of, ending, filled, TableOk}
use Rattle.table.specs.Lying.{lying_by, packed_start, displaced, top_by, top_of, move_to, move_all, moved_cells, packed, packed_whole}
use Rattle.table.specs.Calls.{pack_answer, cells_packed, in_place}
use Rattle.table.specs.Laws.{Working, PackLaw, packed_times, Packs}
use Rattle.table.proofs.Order.{All-same, All-passing, filled-sum, lying_lies, lies_all}
use Rattle.table.proofs.Rules.{table_kind_test_lem, most_test_lem, count_test_lem, table_test_lem, store_test_lem}
use Rattle.table.proofs.Each.{lengths_are}
use Rattle.table.proofs.Filled.{Full, all_full, full_all}
use Rattle.table.proofs.Fitting.{bytes_by, bytes_fit, packed-within}
use Rattle.table.proofs.Moving.{Moved, moved_one, moved_left, moved_packed}

-- ---- cells moved one after another

pub moved_none : {d n : ℕ} {t : Table} → TableOk d n t → Moved d n t t
moved_none ok = record { sound = ok; masks = refl; lengths = refl; size = refl; bytes = λ i l. refl }

moved_then : {d n : ℕ} {t u w : Table} → Moved d n t u → Moved d n u w → Moved d n t w
moved_then p q = record {
  sound = q.sound;
  masks = q.masks ∙ p.masks;
  lengths = q.lengths ∙ p.lengths;
  size = q.size ∙ p.size;
  bytes = λ i l. q.bytes i l ∙ p.bytes i l;
}

move_same : (to to' : ℕ → ℕ) (js : List ℕ) → All (λ j. to j ≡ to' j) js → (t : Table) → move_all to js t ≡ move_all to' js t
move_same to to' [] p t = refl
move_same to to' (j ∷ js) p t =
    ap (λ (a : ℕ). move_all to js (move_to a j t)) p.0 ∙ move_same to to' js p.1 (move_to (to' j) j t)

displaced_full : (t : Table) (n : ℕ) → All (Full (length_of t) n) (displaced t n)
displaced_full t n =
    All-passing (λ j. not (eqb (start_of t j) (packed_start t n j))) (Full (length_of t) n) (lying_by (start_of t) (length_of t) (filled t n))
    (lies_all (lying_lies (start_of t) (length_of t) n) (Full (length_of t) n) (all_full (start_of t) (length_of t) n (Full (length_of t) n) (λ i a. a)))

-- the first k of those that start elsewhere moved: the others are left
pub record Moves (d n k : ℕ) (t : Table) (js : List ℕ) (u : Table) : Type 0 where
  pub moved : Moved d n t u
  pub left : displaced u n ≡ drop k js

pub moves : {d n : ℕ} (k : ℕ) {t : Table} → TableOk d n t → Moves d n k t (displaced t n) (move_all (packed_start t n) (take k (displaced t n)) t)
moves zero ok = record { moved = moved_none ok; left = refl }
moves {d} {n} (suc k) {t} ok = go (displaced t n) refl (λ u s. moves k s)
  where
    go : (js : List ℕ) → displaced t n ≡ js
        → ((u : Table) → TableOk d n u → Moves d n k u (displaced u n) (move_all (packed_start u n) (take k (displaced u n)) u))
        → Moves d n (suc k) t js (move_all (packed_start t n) (take (suc k) js) t)
    go [] e next = record { moved = moved_none ok; left = e }
    go (j ∷ rest) e next =
        let u : Table = move_to (packed_start t n j) j t in
        let one : Moved d n t u = moved_one ok e in
        let r = next u one.sound in
        let places : All (λ i. packed_start u n i ≡ packed_start t n i) (take k (displaced u n)) =
        All-take (λ i. packed_start u n i ≡ packed_start t n i) k (displaced u n)
        (All-map (Full (length_of t) n) (λ i. packed_start u n i ≡ packed_start t n i) (moved_packed ok e) (displaced u n) (displaced_full u n)) in
        let same : move_all (packed_start u n) (take k (displaced u n)) u ≡ move_all (packed_start t n) (take k rest) u =
        move_same (packed_start u n) (packed_start t n) (take k (displaced u n)) places u
        ∙ ap (λ (js : List ℕ). move_all (packed_start t n) (take k js) u) (moved_left ok e) in
        record {
          moved = moved_then one (subst (Moved d n u) same r.moved);
          left = ap (λ (w : Table). displaced w n) (sym same) ∙ r.left ∙ ap (drop k) (moved_left ok e);
        }

-- ---- where the highest-lying cell ends

module _ (start len : ℕ → ℕ) where
  pub top_least : (x : ℕ) (js : List ℕ) → All (λ j. ending start len j ≤ x) js → top_by start len js ≤ x
  top_least x [] p = omega arith
  top_least x (j ∷ js) p = omega (arith, p.0, top_least x js p.1)

  pub top_above : (js : List ℕ) → All (λ j. ending start len j ≤ top_by start len js) js
  top_above [] = tt
  top_above (j ∷ js) =
      (omega arith, All-map (λ i. ending start len i ≤ top_by start len js) (λ i. ending start len i ≤ top_by start len (j ∷ js)) (λ i h. omega arith) js (top_above js))

none_passing : (f : ℕ → Bool) (js : List ℕ) → passing f js ≡ [] → All (λ j. f j ≡ false) js
none_passing f [] e = tt
none_passing f (j ∷ js) e = go (f j) refl e (none_passing f js)
  where
    go : (b : Bool) → f j ≡ b → pick b (j ∷ passing f js) (passing f js) ≡ [] → (passing f js ≡ [] → All (λ i. f i ≡ false) js) → All (λ i. f i ≡ false) (j ∷ js)
    go true t e next = absurd (let never : ◌≡◌ {A = ℕ} 0 1 = cc in omega arith)
    go false t e next = (t, next e)

-- where every cell starts at its packed start they end where their bytes end
pub packed_top : {d n : ℕ} {t : Table} → TableOk d n t → displaced t n ≡ [] → top_of t n ≡ sum t.lengths
packed_top {d} {n} {t} ok e =
    let start = start_of t in
    let len = length_of t in
    let cells = filled t n in
    let at : All (λ j. not (eqb (start j) (packed_start t n j)) ≡ false) cells =
    All-same (λ j. not (eqb (start j) (packed_start t n j)) ≡ false) (lying_by start len cells) cells (lying_lies start len n).same
    (none_passing (λ j. not (eqb (start j) (packed_start t n j))) (lying_by start len cells) e) in
    let tight : (i : ℕ) → Full len n i → start i ≡ packed_start t n i =
    λ i a. eqb-true (start i) (packed_start t n i)
    (not-false (eqb (start i) (packed_start t n i)) (full_all start len n (λ j. not (eqb (start j) (packed_start t n j)) ≡ false) at i a)) in
    let ends : (i : ℕ) → Full len n i → ending start len i ≤ top_of t n =
    full_all start len n (λ i. ending start len i ≤ top_of t n) (top_above start len cells) in
    let most : top_of t n ≤ sum (map len cells) =
    top_least start len (sum (map len cells)) cells
    (all_full start len n (λ i. ending start len i ≤ sum (map len cells)) (λ i a. omega (arith, tight i a, packed-within start len n i a))) in
    let all : passing (λ i. ltb (start i) (top_of t n)) cells ≡ cells =
    passing_all (λ i. ltb (start i) (top_of t n)) cells
    (all_full start len n (λ i. ltb (start i) (top_of t n) ≡ true) (λ i a. lt-ltb (start i) (top_of t n) (omega (arith, ends i a)))) in
    let least : bytes_by len (λ i. ltb (start i) (top_of t n)) cells ≤ top_of t n = bytes_fit start len n ok.apart (top_of t n) (λ i a h. ends i a) in
    omega (arith, ap (λ (js : List ℕ). sum (map len js)) all, filled-sum len (from 0 n), ap sum (lengths_are ok))

-- ---- all of them moved

whole-moves : {d n : ℕ} {t : Table} → TableOk d n t → Moves d n (length (displaced t n)) t (displaced t n) (packed_whole n t)
unfolding packed_whole
whole-moves {d} {n} {t} ok =
    subst (λ (js : List ℕ). Moves d n (length (displaced t n)) t (displaced t n) (move_all (packed_start t n) js t)) (take-length (displaced t n))
    (moves (length (displaced t n)) ok)

-- no cell is changed, none starts elsewhere, and all end where their bytes end
pub record Whole (d n : ℕ) (t : Table) : Type 0 where
  pub moved : Moved d n t (packed_whole n t)
  pub left : displaced (packed_whole n t) n ≡ []
  pub top : top_of (packed_whole n t) n ≡ sum t.lengths

pub packed-whole : {d n : ℕ} {t : Table} → TableOk d n t → Whole d n t
packed-whole {d} {n} {t} ok =
    let m : Moved d n t (packed_whole n t) = (whole-moves ok).moved in
    let none : displaced (packed_whole n t) n ≡ [] = (whole-moves ok).left ∙ drop-length (displaced t n) in
    record { moved = m; left = none; top = packed_top m.sound none ∙ ap sum m.lengths }

-- ---- the call

pack_gives : (k : Kind) (n : ℕ) (t : Table) (most : ℕ) → Working k n t → 1 ≤ most → most ≤ 256 → pack_answer k n t most ≡ gives (packed most n t)
unfolding pack_answer
pack_gives k n t most w l h =
    pass 1 (both (table_kind_test_lem k w.kind) (most_test_lem most (l, h)))
    (pass 2 (count_test_lem n w.count)
    (pass 4 (table_test_lem k.depth n t w.sound)
    (pass 5 (store_test_lem t w.small) refl)))

once : (k : Kind) (n : ℕ) (t : Table) (most : ℕ) → Working k n t → 1 ≤ most → most ≤ 256 → PackLaw k n t most
unfolding cells_packed packed
once k n t most w l h =
    let e : pack_answer k n t most ≡ gives (packed most n t) = pack_gives k n t most w l h in
    let there : (cells_packed k n t most).buffers ≡ packed most n t = ap (λ (a : Answer Table). in_place a t) e in
    let m = moves most w.sound in
    let r = m.moved in
    record {
      given = ap (map_answer (λ u. length (moved_cells most n t))) e;
      working = subst (Working k n) (sym there) (record { kind = w.kind; count = w.count; sound = r.sound; small = omega (arith, r.size, w.small) });
      cells = λ j b.
          ap (λ (u : Table). cell_of k.depth n u j) there
          ∙ ap₂ (λ (ms : List ℕ) (v : Value). cell_by (λ i. mask_at n ms i j) v k.depth 0) r.masks (r.bytes j b);
      total = ap (λ (u : Table). u.lengths) there ∙ r.lengths;
      left = ap (λ (u : Table). displaced u n) there ∙ m.left;
    }

none : (js : List ℕ) → length js ≤ 0 → js ≡ []
none [] h = refl
none (j ∷ js) h = absurd (omega arith)

whole : (k : Kind) (n : ℕ) (t : Table) (most q : ℕ) → Working k n t → 1 ≤ most → most ≤ 256 → length (displaced t n) ≤ q * most
    → displaced (packed_times q k n most t) n ≡ []
whole k n t most zero w l h c = none (displaced t n) (omega (arith, zero-mul most))
whole k n t most (suc q) w l h c =
    let p = once k n t most w l h in
    whole k n (cells_packed k n t most).buffers most q p.working l h
    (omega (arith, ap length p.left, length-drop most (displaced t n), suc-mul q most))

pub packs : Packs
packs = record { once = once; whole = whole }
