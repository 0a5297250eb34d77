-- Writing the values of the cells that a plane shows: what is left to write, cell by cell or run by run.
-- Assumes nothing.
use mathlib.Core.Path.{◌≡◌, refl, sym, ap, ap₂, ◌∙◌, subst}
use mathlib.Core.Bool.{Bool, true, false}
use mathlib.Core.List.{List, [], ◌∷◌, ◌++◌, map, append-nil}
use Prim.Native.Nat.{ℕ, zero, suc, ◌+◌, ◌-◌, ◌*◌, ◌≤◌, ◌<◌}
use native.Mathlib.Omega.{arith}
use native.Mathlib.Nat.{zero-add, zero-mul, one-mul, mul-one, add-mul, sub-zero, le_refl, mul-le-mul_right}
use lib.ListN.{length, take, drop, get_or, set, replicate, length-map, length-replicate}
use lib.Seq.{drop-cons}
use Rattle.array.specs.Lists.{pick, from, joined}
use Rattle.array.specs.Bytes.{le}
use Rattle.array.specs.Kind.{Kind, Form, Order, fixed, null_of}
use Rattle.array.specs.Cells.{Value, Mark, is_null, is_set, is_other, mark_of, set_test, set_test_by}
use Rattle.array.specs.Content.{Content, layout, null_cell}
use Rattle.array.specs.Buffers.{over, over_at}
use Rattle.array.specs.Places.{fixed_at, value_at, value_in, cell_at}
use Rattle.array.proofs.Lists.{map-append, length-joined, length_from_lem, joined-append, All-image}
use Rattle.array.proofs.Geometry.{All-from, from-append}
use Rattle.array.proofs.Laying.{Laying, laying_begins, laying_same, laying_ends, laying_part, laying_is}
use Rattle.array.proofs.Places.{fixed_step, fixed_value, fixed_rises, run_bytes, value_long}
use Rattle.array.proofs.Numbered.{shown_is}
use Rattle.buffer.proofs.Unrolled.{stores_over}
use Rattle.decode_marks.specs.Next.{if_set}
use Rattle.decode_words.proofs.ValueRuns.{joined_zeros}
use Rattle.decode_words.proofs.SpreadingValues.{word_cell}
use Rattle.shown_cells.specs.Shown.{shown_value, shown_values, ShownWithin, Alike}

-- ---- what is laid out where each cell is shown by the plane, or null, has these values

pub shown_laid : (k : Kind) (size : ℕ) (o : Order) → k.form ≡ fixed size o → (n : ℕ) (c : Content) (plane js : List ℕ)
    → (layout k.form k.depth (map (λ j. pick (set_test (get_or plane j 0)) (cell_at k n c j) (null_cell k)) js)).values ≡ joined (map (shown_value size c.values plane) js)
shown_laid k size o e n c plane js =
    ap (λ (c : Content). c.values) (shown_is k n c (λ j. j) (λ j. set_test (get_or plane j 0)) js)
    ∙ ap (λ (f : Form). joined (map (λ (j : ℕ). pick (set_test (get_or plane j 0)) (value_in f c j) (null_of f)) js)) e

-- ---- the values of a run of cells

-- of the r cells from j on
abbrev pub shown_from : ℕ → List ℕ → List ℕ → ℕ → ℕ → List ℕ
shown_from size vs plane j r = joined (map (shown_value size vs plane) (from j r))

module _ (size : ℕ) (vs plane : List ℕ) where
  shown_long : (t : Bool) (n j : ℕ) → n * size ≤ length vs → j < n → length (pick t (value_at (fixed_at 0 size) vs j) (replicate size 0)) ≡ size
  shown_long true n j h l = value_long (fixed_rises 0 size n) vs (omega arith) j l ∙ fixed_step 0 size j
  shown_long false n j h l = length-replicate size 0

  from_long : (j r : ℕ) → (j + r) * size ≤ length vs → length (shown_from size vs plane j r) ≡ r * size
  from_long j r h =
      let P : ℕ → Type 0 = λ i. length (shown_value size vs plane i) ≡ size in
      let sized = All-from P j r (λ i a b. shown_long (set_test (get_or plane i 0)) (j + r) i h b) in
      length-joined size (map (shown_value size vs plane) (from j r)) (All-image (λ v. length v ≡ size) (shown_value size vs plane) (from j r) sized)
      ∙ ap (λ (m : ℕ). m * size) (length-map (from j r) (shown_value size vs plane) ∙ length_from_lem j r)

  -- r of m cells, and the others
  from_split : (j r m : ℕ) → r ≤ m → shown_from size vs plane j m ≡ shown_from size vs plane j r ++ shown_from size vs plane (j + r) (m - r)
  from_split j r m h =
      let e : r + (m - r) ≡ m = omega arith in
      ap (λ (is : List ℕ). joined (map (shown_value size vs plane) is)) (from-append j r (m - r) (j + r) m refl e)
      ∙ ap joined (map-append (shown_value size vs plane) (from j r) (from (j + r) (m - r)))
      ∙ joined-append (map (shown_value size vs plane) (from j r)) (map (shown_value size vs plane) (from (j + r) (m - r)))

  -- cells that are all shown, or all not
  same_from : (t : Bool) (i r : ℕ) → ((j : ℕ) → i ≤ j → j < i + r → set_test (get_or plane j 0) ≡ t)
      → map (shown_value size vs plane) (from i r) ≡ map (λ j. pick t (value_at (fixed_at 0 size) vs j) (replicate size 0)) (from i r)
  same_from t i zero h = refl
  same_from t i (suc r) h =
      ap₂ (λ (v : Value) (l : List Value). v ∷ l) (ap (λ (b : Bool). pick b (value_at (fixed_at 0 size) vs i) (replicate size 0)) (h i (omega arith) (omega arith)))
      (same_from t (suc i) r (λ j a b. h j (omega arith) (omega arith)))

  run_is : (t : Bool) (i r : ℕ) → joined (map (λ j. pick t (value_at (fixed_at 0 size) vs j) (replicate size 0)) (from i r))
      ≡ pick t (take (r * size) (drop (i * size) vs)) (replicate (r * size) 0)
  run_is true i r =
      let e : 0 + (i + r) * size - (0 + i * size) ≡ r * size = omega (arith, add-mul i r size) in
      run_bytes (fixed_rises 0 size (i + r)) vs i r (le_refl (i + r)) ∙ ap₂ (λ (a b : ℕ). take a (drop b vs)) e (zero-add (i * size))
  run_is false i r = ap joined (constant i r) ∙ joined_zeros r size
    where
      constant : (i r : ℕ) → map (λ j. replicate {A = ℕ} size 0) (from i r) ≡ replicate r (replicate size 0)
      constant i zero = refl
      constant i (suc r) = ap (λ (l : List Value). replicate size 0 ∷ l) (constant (suc i) r)

-- ---- the first j cells of the plane are written

pub record Showing (size : ℕ) (vs plane d out : List ℕ) (j : ℕ) : Type 0 where
  pub given : ShownWithin d vs size plane
  pub within : j ≤ length plane
  pub laid : Laying (shown_values size vs plane) d 0 out (j * size) (shown_from size vs plane j (length plane - j))

pub showing_begins : {size : ℕ} {vs plane d : List ℕ} → ShownWithin d vs size plane → Showing size vs plane d d 0
showing_begins {size} {vs} {plane} {d} w =
    let n : ℕ = length plane in
    let z : 0 ≡ 0 * size = sym (zero-mul size) in
    let long : length (shown_from size vs plane 0 n) ≡ n * size = from_long size vs plane 0 n (omega (arith, w.source, ap (λ (m : ℕ). m * size) (zero-add n))) in
    record {
      given = w;
      within = omega arith;
      laid = laying_is
          (subst (λ (i : ℕ). Laying (shown_values size vs plane) d 0 d i (shown_values size vs plane)) z (laying_begins (shown_values size vs plane) d 0 (omega (arith, w.room, long))))
          (ap (shown_from size vs plane 0) (sym (sub-zero n)));
    }

module _ {size : ℕ} {vs plane d out : List ℕ} {j : ℕ} (s : Showing size vs plane d out j) where
  pub showing_same : length out ≡ length d
  showing_same = laying_same (shown_values size vs plane) d 0 out (j * size) _ s.laid

  pub showing_ends : length plane ≤ j → out ≡ over (shown_values size vs plane) d
  showing_ends h =
      let none : length plane - j ≡ 0 = omega arith in
      laying_ends (shown_values size vs plane) d 0 out (j * size) (laying_is s.laid (ap (shown_from size vs plane j) none))

  -- r cells more
  module _ (r : ℕ) (h : j + r ≤ length plane) where
    pub showing_room : j * size + r * size ≤ length out
    showing_room = omega (arith, showing_same, s.given.room, mul-le-mul_right size h, add-mul j r size)

    pub showing_source : j * size + r * size ≤ length vs
    showing_source = omega (arith, s.given.source, mul-le-mul_right size h, add-mul j r size)

    pub showing_more : {x : List ℕ} → x ≡ shown_from size vs plane j r → {out' : List ℕ} → out' ≡ over_at (j * size) x out → Showing size vs plane d out' (j + r)
    showing_more {x} ex {out'} eo =
        let g : List ℕ = shown_from size vs plane j r in
        let m : ℕ = length plane - j in
        let em : m - r ≡ length plane - (j + r) = omega arith in
        let to : (j + r) * size ≡ j * size + length g = omega (arith, add-mul j r size, from_long size vs plane j r (omega (arith, showing_source, add-mul j r size))) in
        record {
          given = s.given;
          within = h;
          laid = laying_part (shown_values size vs plane) d 0 out (j * size) g (shown_from size vs plane (j + r) (length plane - (j + r)))
              (laying_is s.laid (from_split size vs plane j r m (omega arith) ∙ ap (λ (k : ℕ). g ++ shown_from size vs plane (j + r) k) em)) out'
              (eo ∙ ap₂ (λ (k : ℕ) (y : List ℕ). over_at k y out) (sym (zero-add (j * size))) ex) ((j + r) * size) to;
        }

  -- a cell more
  module _ (h : j < length plane) where
    pub cell_room : j * size + size ≤ length out
    cell_room = omega (arith, showing_room 1 (omega arith), one-mul size)

    pub cell_source : j * size + size ≤ length vs
    cell_source = omega (arith, showing_source 1 (omega arith), one-mul size)

    pub showing_cell : {x : List ℕ} → x ≡ shown_value size vs plane j → {out' : List ℕ} → out' ≡ over_at (j * size) x out → Showing size vs plane d out' (j + 1)
    showing_cell ex eo = showing_more 1 (omega arith) (ex ∙ sym (append-nil (shown_value size vs plane j))) eo

-- ---- a cell's value by the mark m of its byte

mark_test : {A : Type 0} (m : Mark) (x z : A) → if_set m x z ≡ pick (set_test_by m) x z
mark_test is_null x z = refl
mark_test is_set x z = refl
mark_test is_other x z = refl

module _ (size : ℕ) (vs plane : List ℕ) (j : ℕ) {m : Mark} (em : m ≡ mark_of (get_or plane j 0)) where
  pub by_mark : {v : Value} → v ≡ value_at (fixed_at 0 size) vs j → if_set m v (replicate size 0) ≡ shown_value size vs plane j
  by_mark {v} ev = mark_test m v (replicate size 0) ∙ ap₂ (λ (k : Mark) (u : Value). pick (set_test_by k) u (replicate size 0)) em ev

  -- as a word
  pub word_shown : (x : ℕ) {w : ℕ} → w ≡ if_set m x 0 → le size x ≡ take size (drop (j * size) vs) → le size w ≡ shown_value size vs plane j
  word_shown x ew ex = word_cell size m x (take size (drop (j * size) vs)) ew ex ∙ by_mark (sym (fixed_value 0 size vs j (zero-add (j * size))))

-- as a byte
module _ {vs plane d out : List ℕ} {j : ℕ} (s : Showing 1 vs plane d out j) (h : j < length plane) where
  pub byte_room : j < length out
  byte_room = omega (arith, cell_room s h, mul-one j)

  pub byte_source : j < length vs
  byte_source = omega (arith, cell_source s h, mul-one j)

  pub showing_byte : {m : Mark} → m ≡ mark_of (get_or plane j 0) → {x : ℕ} → x ≡ if_set m (get_or vs j 0) 0 → Showing 1 vs plane d (set out j x) (j + 1)
  showing_byte {m} em {x} ex =
      let read : get_or vs j 0 ∷ [] ≡ value_at (fixed_at 0 1) vs j =
      sym (fixed_value 0 1 vs j {at = j} (omega (arith, mul-one j)) ∙ ap (take 1) (drop-cons vs j 0 byte_source)) in
      showing_cell s h (ap (λ (b : ℕ). b ∷ []) ex ∙ one m (get_or vs j 0) ∙ by_mark 1 vs plane j em read)
      (stores_over j (x ∷ []) out (omega (arith, byte_room)) ∙ ap (λ (k : ℕ). over_at k (x ∷ []) out) (sym (mul-one j)))
    where
      one : (m : Mark) (b : ℕ) → if_set m b 0 ∷ [] ≡ if_set m (b ∷ []) (0 ∷ [])
      one is_null b = refl
      one is_set b = refl
      one is_other b = refl

-- ---- cells that are all shown, or all not

-- they are written at once
module _ {size : ℕ} {vs plane d out : List ℕ} {i : ℕ} (s : Showing size vs plane d out i) {shown : Bool} {e : ℕ} (a : Alike plane shown i e) where
  to_end : i + (e - i) ≡ e
  to_end = omega (arith, a.some)

  pub run_room : i * size + (e - i) * size ≤ length out
  run_room = showing_room s (e - i) (omega (arith, to_end, a.within))

  pub run_source : i * size + (e - i) * size ≤ length vs
  run_source = showing_source s (e - i) (omega (arith, to_end, a.within))

  pub showing_run : {out' : List ℕ} → out' ≡ over_at (i * size) (pick shown (take ((e - i) * size) (drop (i * size) vs)) (replicate ((e - i) * size) 0)) out
      → Showing size vs plane d out' e
  showing_run {out'} eo =
      let alike : (j : ℕ) → i ≤ j → j < i + (e - i) → set_test (get_or plane j 0) ≡ shown = λ j l u. a.alike j l (omega (arith, to_end)) in
      subst (Showing size vs plane d out') to_end
      (showing_more s (e - i) (omega (arith, to_end, a.within))
      (sym (ap joined (same_from size vs plane shown i (e - i) alike) ∙ run_is size vs plane shown i (e - i))) eo)
