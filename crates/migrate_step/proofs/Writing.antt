-- The two loops over the cells of an old string, and all that is written of it.
-- Assumes nothing.
use mathlib.Core.Path.{◌≡◌, refl, sym, ap, ap₂, ◌∙◌}
use Prim.Native.Nat.{ℕ, ◌+◌, ◌-◌, ◌*◌, ◌<◌, ◌≤◌}
use native.Mathlib.Nat.{sub-zero, add-zero}
use native.Mathlib.Omega.{arith}
use mathlib.Core.List.{List, [], ◌∷◌, ◌++◌, append-nil}
use lib.ListN.{length, take, drop, length-append, length-drop}
use lib.Seq.{length-take-le}
use borrow.Author.Tests.{le-leb, lt-leb}
use Rattle.array.specs.Answer.{gives, refuses}
use Rattle.array.specs.Lists.{joined}
use Rattle.array.specs.Bytes.{le}
use Rattle.array.specs.Cells.{Value}
use Rattle.array.specs.Offsets.{ends, offsets_of}
use Rattle.array.specs.Buffers.{over_at}
use Rattle.array.proofs.Bytes.{length-le}
use Rattle.array.proofs.Offsets.{length-ends}
use Rattle.array.proofs.Laying.{Laying, laying_begins, laying_part, laying_ends, laying_is, laying_same, laying_left}
use Rattle.codec.specs.Interleaved.{interleaved_cells}
use Rattle.codec.specs.Ragged.{index_of, put_ragged}
use Rattle.codec.specs.Values.{put_values}
use Rattle.codec.proofs.Ragged.{length_index}
use Rattle.codec.proofs.Older.{length_read}
use Rattle.decode_interleaved.specs.Walk.{total_of, found, Found}
use Rattle.decode_interleaved.proofs.Steps.{length_at, Cell, cells_room}
use Rattle.decode_interleaved.proofs.Loops.{next_cell, no_cell}
use Rattle.migrate.specs.Live.{new_form}
use Rattle.migrate_step.specs.Strings.{count_of, cells_of, Counted, laid_at}

-- the value bytes lie in the string
total_room : (n : ℕ) (s : List ℕ) → Found n s → total_of (found n s) ≤ length s
total_room n s f = omega (arith, cells_room n (drop 4 s) (found n s) f, length-drop 4 s)

-- ---- the cells that are left: those from `from` on, of n

pub record Left (n : ℕ) (s : List ℕ) (i from : ℕ) (cells : List Value) : Type 0 where
  pub within : i ≤ n
  pub stored : interleaved_cells (n - i) (drop from s) ≡ gives cells

left_begins : {n : ℕ} {s : List ℕ} → Found n s → Left n s 0 4 (found n s)
left_begins {n} {s} f = record { within = omega arith; stored = ap (λ (k : ℕ). interleaved_cells k (drop 4 s)) (sub-zero n) ∙ f }

module _ {n : ℕ} {s : List ℕ} {i from : ℕ} {cells : List Value} (l : Left n s i from cells) where
  left_none : n ≤ i → cells ≡ []
  left_none h = no_cell s (n - i) from cells l.stored (omega arith)

  module _ (h : i < n) where
    left_cell : Cell s from (n - i - 1) cells
    left_cell = next_cell s (n - i) from cells l.stored (omega arith)

    -- the next of them, by its length
    module _ (v : ℕ) (e : v ≡ length_at s from) where
      abbrev cell : Value
      cell = take v (drop (from + 4) s)

      left_fits : from + 4 + v ≤ length s
      left_fits = omega (arith, left_cell.fits)

      left_long : length cell ≡ v
      left_long = length-take-le v (drop (from + 4) s) (omega (arith, length-drop (from + 4) s, left_fits))

      left_whole : cells ≡ cell ∷ left_cell.others
      left_whole = left_cell.whole ∙ ap (λ (k : ℕ). take k (drop (from + 4) s) ∷ left_cell.others) (sym e)

      left_total : total_of cells ≡ v + total_of left_cell.others
      left_total = omega (arith, ap total_of left_whole, length-append cell (joined left_cell.others), left_long)

      left_more : Left n s (i + 1) (from + 4 + v) left_cell.others
      left_more =
          let one : n - (i + 1) ≡ n - i - 1 = omega arith in
          record { within = omega arith; stored = ap₂ (λ (m k : ℕ). interleaved_cells m (drop (from + 4 + k) s)) one e ∙ left_cell.after }

-- ---- the index: where each cell ends

pub record Indexing (n : ℕ) (s d : List ℕ) (at : ℕ) (out : List ℕ) (i from end : ℕ) : Type 0 where
  pub cells : List Value
  pub left : Left n s i from cells
  pub total : end + total_of cells ≡ total_of (found n s)
  pub small : total_of (found n s) ≤ length s
  pub laid : Laying (index_of 8 (offsets_of (found n s))) d at out (8 * (i + 1)) (index_of 8 (ends end cells))

-- an offset for each cell, and one more
pub index_length : (n : ℕ) (s : List ℕ) → Found n s → length (index_of 8 (offsets_of (found n s))) ≡ 8 * (n + 1)
index_length n s f =
    omega (arith, length_index 8 (offsets_of (found n s)), length-ends 0 (found n s), length_read n (drop 4 s) (found n s) f)

-- the first offset is stored
pub index_begins : {n : ℕ} {s d out : List ℕ} {at : ℕ} → Found n s → at + 8 * (n + 1) ≤ length d → out ≡ over_at at (le 8 0) d → Indexing n s d at out 0 4 0
index_begins {n} {s} {d} {out} {at} f h e =
    let want : List ℕ = index_of 8 (offsets_of (found n s)) in
    let rest : List ℕ = index_of 8 (ends 0 (found n s)) in
    record {
      cells = found n s;
      left = left_begins f;
      total = omega arith;
      small = total_room n s f;
      laid = laying_part want d at d 0 (le 8 0) rest (laying_begins want d at (omega (arith, index_length n s f))) out
          (e ∙ ap (λ (k : ℕ). over_at k (le 8 0) d) (sym (add-zero at))) (8 * (0 + 1)) (omega (arith, length-le 8 0));
    }

module _ {n : ℕ} {s d out : List ℕ} {at i from end : ℕ} (c : Indexing n s d at out i from end) where
  abbrev want : List ℕ
  want = index_of 8 (offsets_of (found n s))

  pub index_ends : n ≤ i → out ≡ over_at at want d
  index_ends h = laying_ends want d at out (8 * (i + 1)) (laying_is c.laid (ap (λ (vs : List Value). index_of 8 (ends end vs)) (left_none c.left h)))

  module _ (h : i < n) (v : ℕ) (e : v ≡ length_at s from) where
    pub index_fits : from + 4 + v ≤ length s
    index_fits = left_fits c.left h v e

    pub index_sum : end + v ≤ length s
    index_sum = omega (arith, c.total, c.small, left_total c.left h v e)

    rest_is : index_of 8 (ends end c.cells) ≡ le 8 (end + v) ++ index_of 8 (ends (end + v) (left_cell c.left h).others)
    rest_is =
        ap (λ (vs : List Value). index_of 8 (ends end vs)) (left_whole c.left h v e)
        ∙ ap (λ (k : ℕ). index_of 8 ((end + k) ∷ ends (end + k) (left_cell c.left h).others)) (left_long c.left h v e)

    pub index_room : at + 8 * (i + 1) + 8 ≤ length out
    index_room =
        omega (
          arith,
          laying_same want d at out (8 * (i + 1)) _ c.laid,
          laying_left want d at out (8 * (i + 1)) _ c.laid,
          c.laid.room,
          ap length rest_is,
          length-append (le 8 (end + v)) (index_of 8 (ends (end + v) (left_cell c.left h).others)),
          length-le 8 (end + v),
        )

    pub index_more : {out' : List ℕ} → out' ≡ over_at (at + 8 * (i + 1)) (le 8 (end + v)) out → Indexing n s d at out' (i + 1) (from + 4 + v) (end + v)
    index_more {out'} f = record {
      cells = (left_cell c.left h).others;
      left = left_more c.left h v e;
      total = omega (arith, c.total, left_total c.left h v e);
      small = c.small;
      laid = laying_part want d at out (8 * (i + 1)) (le 8 (end + v)) (index_of 8 (ends (end + v) (left_cell c.left h).others)) (laying_is c.laid rest_is) out' f
          (8 * (i + 1 + 1)) (omega (arith, length-le 8 (end + v)));
    }

-- ---- the data: the bytes of all cells

pub record Copying (n : ℕ) (s d : List ℕ) (at : ℕ) (out : List ℕ) (i from to : ℕ) : Type 0 where
  pub cells : List Value
  pub left : Left n s i from cells
  pub laid : Laying (joined (found n s)) d at out to (joined cells)

pub copy_begins : {n : ℕ} {s d : List ℕ} {at : ℕ} → Found n s → at + total_of (found n s) ≤ length d → Copying n s d at d 0 4 0
copy_begins {n} {s} {d} {at} f h = record { cells = found n s; left = left_begins f; laid = laying_begins (joined (found n s)) d at h }

module _ {n : ℕ} {s d out : List ℕ} {at i from to : ℕ} (c : Copying n s d at out i from to) where
  abbrev all : List ℕ
  all = joined (found n s)

  pub copy_ends : n ≤ i → out ≡ over_at at all d
  copy_ends h = laying_ends all d at out to (laying_is c.laid (ap joined (left_none c.left h)))

  module _ (h : i < n) (v : ℕ) (e : v ≡ length_at s from) where
    pub copy_fits : from + 4 + v ≤ length s
    copy_fits = left_fits c.left h v e

    abbrev part : List ℕ
    part = take v (drop (from + 4) s)

    here : Laying all d at out to (part ++ joined (left_cell c.left h).others)
    here = laying_is c.laid (ap joined (left_whole c.left h v e))

    pub copy_room : at + to + v ≤ length out
    copy_room =
        omega (
          arith,
          laying_same all d at out to _ here,
          laying_left all d at out to _ here,
          here.room,
          length-append part (joined (left_cell c.left h).others),
          left_long c.left h v e,
        )

    pub copy_more : {out' : List ℕ} → out' ≡ over_at (at + to) part out → Copying n s d at out' (i + 1) (from + 4 + v) (to + v)
    copy_more {out'} f = record {
      cells = (left_cell c.left h).others;
      left = left_more c.left h v e;
      laid = laying_part all d at out to part (joined (left_cell c.left h).others) here out' f (to + v) (omega (arith, left_long c.left h v e));
    }

-- ---- all that is written

module _ {s : List ℕ} {sum : ℕ} (c : Counted s sum) (at : ℕ) (d : List ℕ) where
  abbrev n : ℕ
  n = count_of s

  abbrev new : List ℕ
  new = put_values new_form (cells_of s)

  abbrev index : List ℕ
  index = index_of 8 (offsets_of (cells_of s))

  abbrev data' : List ℕ
  data' = joined (cells_of s)

  index_long : length index ≡ 8 * (n + 1)
  index_long = index_length n s c.cells.all

  new_is : new ≡ le 8 (8 * (n + 1)) ++ (index ++ data')
  unfolding put_values put_ragged
  new_is = ap (λ (k : ℕ). le 8 k ++ (index ++ data')) index_long

  new_long : length new ≡ 8 + 8 * (n + 1) + sum
  new_long =
      omega (
        arith,
        ap length new_is,
        length-append (le 8 (8 * (n + 1))) (index ++ data'),
        length-le 8 (8 * (n + 1)),
        length-append index data',
        index_long,
        c.cells.total,
      )

  pub no_place : length d - at < 8 + 8 * (n + 1) + sum → at ≤ length d → record { answer = refuses 6; buffers = d } ≡ laid_at at new d
  no_place h g = rw (lt-leb (at + length new) (length d) (omega (arith, new_long)))

  module _ (h : at + (8 + 8 * (n + 1) + sum) ≤ length d) {one two three : List ℕ} (first : one ≡ over_at at (le 8 (8 * (n + 1))) d)
      (second : two ≡ over_at (at + 8) index one) (third : three ≡ over_at (at + 8 + 8 * (n + 1)) data' two) where
    laid : three ≡ over_at at new d
    laid =
        let l0 : Laying new d at d 0 (le 8 (8 * (n + 1)) ++ (index ++ data')) = laying_is (laying_begins new d at (omega (arith, new_long))) new_is in
        let l1 : Laying new d at one 8 (index ++ data') =
        laying_part new d at d 0 (le 8 (8 * (n + 1))) (index ++ data') l0 one
        (first ∙ ap (λ (k : ℕ). over_at k (le 8 (8 * (n + 1))) d) (sym (add-zero at))) 8 (omega (arith, length-le 8 (8 * (n + 1)))) in
        let l2 : Laying new d at two (8 + 8 * (n + 1)) (data' ++ []) =
        laying_is (laying_part new d at one 8 index data' l1 two second (8 + 8 * (n + 1)) (omega (arith, index_long))) (sym (append-nil data')) in
        laying_ends new d at three (8 + 8 * (n + 1) + length data')
        (laying_part new d at two (8 + 8 * (n + 1)) data' [] l2 three (third ∙ ap (λ (k : ℕ). over_at k data' two) (omega arith)) (8 + 8 * (n + 1) + length data') refl)

    pub placed : record { answer = gives (8 + 8 * (n + 1) + sum); buffers = three } ≡ laid_at at new d
    placed = rw (le-leb (at + length new) (length d) (omega (arith, new_long)), new_long, laid)
